pub mod Digits
pub mod Spelling
pub mod Reading
pub mod Signs
pub mod Written
pub mod Plain
pub mod OnePlain
pub mod Examples
