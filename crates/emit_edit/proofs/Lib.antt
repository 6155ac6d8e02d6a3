pub mod SignedLengths
