pub mod Parts
pub mod Patterns
pub mod Exactly
pub mod Quotients
pub mod Appending
pub mod Hexadecimal
pub mod RoundTrip
