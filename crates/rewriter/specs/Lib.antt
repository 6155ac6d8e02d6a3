pub mod Settled
pub mod Rewritten
