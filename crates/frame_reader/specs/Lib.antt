pub mod FrameOutcome
pub mod Unique
