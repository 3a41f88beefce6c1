pub mod Counts
pub mod Bits
