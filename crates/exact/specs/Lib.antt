pub mod Value
pub mod Sum
pub mod Range
pub mod Threshold
pub mod Rounding
pub mod Controls
