pub mod LastDigitFirst
pub mod PowerLength
