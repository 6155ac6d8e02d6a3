pub mod Met1
