pub mod Factors
pub mod Nearby
pub mod Residual
