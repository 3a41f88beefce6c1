pub mod Chains
pub mod Columns
pub mod Lent
