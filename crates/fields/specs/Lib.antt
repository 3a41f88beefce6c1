pub mod Texts
pub mod Decimal
pub mod Hex
pub mod Wrote
pub mod Digit
pub mod Number
pub mod Item
