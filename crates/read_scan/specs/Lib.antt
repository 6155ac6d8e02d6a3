pub mod Findings
pub mod Faults
pub mod Reading
pub mod Accounts
pub mod Closing
pub mod MuAccounts
