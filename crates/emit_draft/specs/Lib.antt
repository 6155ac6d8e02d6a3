pub mod Texts
pub mod DraftLengths
