pub mod Named
pub mod Texts
pub mod PartLengths
