pub mod Lines
pub mod Taking
pub mod Feeding
pub mod HeldLines
pub mod Steps
