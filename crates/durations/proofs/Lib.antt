pub mod Parting
pub mod Ranges
pub mod Showing
