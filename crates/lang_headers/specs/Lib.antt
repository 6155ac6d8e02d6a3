pub mod Optionals
pub mod Parse
pub mod Sound
pub mod Kinds
pub mod Canonical
