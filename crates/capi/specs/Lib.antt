pub mod Columns
pub mod Calls
