pub mod Refusals
pub mod Factor
pub mod Solve
pub mod Calls
pub mod Promises
pub mod Again
pub mod Controls
