pub mod Flat
pub mod UpTo
pub mod Largest
pub mod Elimination
pub mod Reaching
pub mod Steps
pub mod Unlooked
pub mod Outcome
