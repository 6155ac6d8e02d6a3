pub mod Follow
pub mod Complete
pub mod Sound
pub mod First
pub mod Instance
pub mod CanonEnds
pub mod Canonical
pub mod Settled
