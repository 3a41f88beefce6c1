pub mod Sleeps
pub mod Types
pub mod Waited
pub mod Made
pub mod Stands
pub mod Does
pub mod Promises
