pub mod Flags
pub mod Apart
pub mod Table
