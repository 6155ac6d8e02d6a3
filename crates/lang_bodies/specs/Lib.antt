pub mod ProteinBodies
pub mod ProteinSound
pub mod Settled
pub mod Examples
