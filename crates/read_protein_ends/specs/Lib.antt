pub mod EndAnswers
