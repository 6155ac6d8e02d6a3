pub mod Outcome
pub mod Reading
pub mod Writing
pub mod NoRef
pub mod Width
pub mod NoBaseZero
pub mod Examples
