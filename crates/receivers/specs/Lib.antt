pub mod Keeping
pub mod Ranges
pub mod Sums
pub mod Takes
