pub mod Cuts
pub mod OneAnswer
pub mod Some
pub mod StreamTexts
