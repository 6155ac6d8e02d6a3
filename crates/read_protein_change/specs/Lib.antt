pub mod ProteinChangeAnswers
pub mod Told
