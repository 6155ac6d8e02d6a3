pub mod MarkOffsetAnswers
