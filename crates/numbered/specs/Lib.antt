pub mod Numbered
pub mod TextOperations
