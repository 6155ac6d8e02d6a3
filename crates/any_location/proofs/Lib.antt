pub mod OfTree
pub mod OfRecord
pub mod ToRecord
