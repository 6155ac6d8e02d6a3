pub mod Calls
pub mod Frames
pub mod Gathering
pub mod Room
pub mod Spelling
pub mod Splits
pub mod Streams
pub mod Taking
