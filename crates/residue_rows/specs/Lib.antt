pub mod Rows
pub mod EachRow
pub mod Beginning
pub mod ChosenRows
pub mod PackedRows
