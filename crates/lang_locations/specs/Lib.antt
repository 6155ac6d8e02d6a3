pub mod Parse
pub mod Sound
pub mod Equal
pub mod Canon
pub mod Canonical
pub mod Settled
