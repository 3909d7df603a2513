pub mod Exactly
pub mod Turns
