pub mod After
pub mod Fronts
