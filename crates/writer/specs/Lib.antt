pub mod Unique
pub mod ReadBack
