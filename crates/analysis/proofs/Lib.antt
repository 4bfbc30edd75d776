pub mod Residual
pub mod Elimination
pub mod Triangle
pub mod Factors
pub mod Solve
pub mod Nearby
pub mod Summation
