pub mod Optionals
pub mod Sound
pub mod KindLang
pub mod Canonical
