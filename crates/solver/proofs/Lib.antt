pub mod Outcome
pub mod Promised
