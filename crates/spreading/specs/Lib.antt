pub mod ClockLimits
pub mod Laws
pub mod Spreading
pub mod Steps
