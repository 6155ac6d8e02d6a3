pub mod MarkOffsetCases
