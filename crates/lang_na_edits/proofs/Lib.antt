pub mod Alphabet
pub mod Choice
pub mod Sound
pub mod Bracketing
pub mod Canonical
pub mod Settled
pub mod Examples
