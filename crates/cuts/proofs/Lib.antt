pub mod Gathering
pub mod Storing
