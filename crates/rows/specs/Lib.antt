pub mod Types
pub mod Asking
pub mod Applies
