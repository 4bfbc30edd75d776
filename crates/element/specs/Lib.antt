pub mod Refusals
pub mod Matrix
pub mod Products
pub mod Rows
pub mod Multiply
pub mod Promises
