pub mod Found
pub mod NaFormCases
