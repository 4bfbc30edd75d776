pub mod Number
pub mod Digits
pub mod Printed
pub mod Promises
