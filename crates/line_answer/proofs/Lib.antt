pub mod AnswerRoom
