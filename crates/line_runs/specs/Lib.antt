pub mod After
pub mod Runs
