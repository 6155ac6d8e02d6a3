pub mod OneLineAnswer
pub mod Output
