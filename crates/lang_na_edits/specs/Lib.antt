pub mod Alphabet
pub mod Choice
pub mod Parse
pub mod Brackets
pub mod Canon
pub mod Canonical
pub mod Settled
pub mod Examples
