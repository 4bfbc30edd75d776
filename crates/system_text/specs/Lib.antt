pub mod Left
pub mod Read
pub mod Each
pub mod Write
