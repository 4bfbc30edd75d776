pub mod Leading
pub mod Named
pub mod All
pub mod Saturated
pub mod Refused
pub mod Lines
pub mod Counted
pub mod OneByOne
