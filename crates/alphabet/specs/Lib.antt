pub mod Letters
pub mod Classes
pub mod Flags
pub mod Cells
pub mod Apart
