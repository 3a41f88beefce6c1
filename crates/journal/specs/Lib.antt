pub mod Types
pub mod Line
pub mod Reply
pub mod Told
pub mod Promise
pub mod Writer
pub mod Reader
