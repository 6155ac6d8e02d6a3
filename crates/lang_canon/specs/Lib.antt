pub mod NaBodyCanon
pub mod ProteinBodyCanon
pub mod TextCanon
pub mod Changes
pub mod Pairs
pub mod Wording
