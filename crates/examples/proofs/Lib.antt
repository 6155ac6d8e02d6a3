pub mod Trees
pub mod Reading
pub mod Refused
pub mod Widths
pub mod NumberPlaces
pub mod Twins
