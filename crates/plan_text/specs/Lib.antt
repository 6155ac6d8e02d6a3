pub mod Named
pub mod Plan
pub mod Planned
