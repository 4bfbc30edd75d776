pub mod Words
pub mod Refusals
pub mod Systems
pub mod Factors
pub mod Lines
pub mod Programs
pub mod Promises
