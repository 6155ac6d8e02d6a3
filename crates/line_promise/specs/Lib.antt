pub mod LineAnswers
pub mod Computed
pub mod Output
