pub mod LineWords
pub mod ReadSteps
pub mod Fit
pub mod Promised
pub mod LineStores
pub mod Theorems
pub mod Newlines
pub mod Parts
