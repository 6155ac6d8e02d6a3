pub mod DigitLoops
