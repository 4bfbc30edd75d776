pub mod Words
pub mod Printed
pub mod ReadBack
pub mod Fit
pub mod Taken
pub mod Stable
pub mod Again
