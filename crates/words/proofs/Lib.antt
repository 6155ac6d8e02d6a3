pub mod Pointwise
