pub mod LocationAnswers
pub mod Told
