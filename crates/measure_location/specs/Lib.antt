pub mod Named
pub mod LocationWidths
