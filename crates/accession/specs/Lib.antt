pub mod Accessor
