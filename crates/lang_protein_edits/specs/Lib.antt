pub mod Parse
pub mod Follow
pub mod First
pub mod Canon
pub mod CanonEnds
pub mod Canonical
pub mod Settled
