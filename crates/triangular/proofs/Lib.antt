pub mod Flat
pub mod Sound
pub mod Forward
pub mod Backward
pub mod Outcome
