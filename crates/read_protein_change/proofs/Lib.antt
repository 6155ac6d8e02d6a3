pub mod ProteinChangeCases
