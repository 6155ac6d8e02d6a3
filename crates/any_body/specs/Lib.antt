pub mod AnyBodies
pub mod RecordBodies
