pub mod HeaderText
pub mod Headings
