pub mod ProteinEditCases
