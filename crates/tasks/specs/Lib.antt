pub mod Masks
pub mod Numbering
pub mod Columns
pub mod Walks
pub mod Dues
pub mod Loans
pub mod Known
pub mod Fine
