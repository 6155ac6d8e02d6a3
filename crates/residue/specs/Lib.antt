pub mod Residues
pub mod Reading
pub mod ResiduesRead
