pub mod Sound
pub mod Languages
pub mod Equal
pub mod Canonical
pub mod Fits
pub mod Settled
