pub mod Seconds
pub mod Laws
pub mod Report
