pub mod Texts
pub mod EditLengths
