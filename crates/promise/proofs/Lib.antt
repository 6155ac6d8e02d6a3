pub mod Accepted
pub mod NoBaseZero
pub mod Unique
pub mod Examples
