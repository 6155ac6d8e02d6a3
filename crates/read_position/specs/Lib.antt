pub mod PositionAnswers
pub mod Forms
pub mod Told
