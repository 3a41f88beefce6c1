pub mod Steps
pub mod Many
pub mod Paths
pub mod Circles
pub mod Largest
pub mod Raised
pub mod Says
pub mod Lending
