pub mod Slices
pub mod State
pub mod Thresholds
