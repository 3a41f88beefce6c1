pub mod LinePlaces
pub mod Stores
pub mod Digits
pub mod Pairs
