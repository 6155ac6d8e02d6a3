pub mod FrameAnswers
pub mod Cuts
