pub mod FirstOfTwo
