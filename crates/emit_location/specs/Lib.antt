pub mod Texts
pub mod LocationLengths
