pub mod Columns
pub mod WayBack
pub mod Fines
pub mod ByList
pub mod Plain
