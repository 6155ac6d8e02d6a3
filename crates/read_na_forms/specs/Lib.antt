pub mod NaEditAnswers
