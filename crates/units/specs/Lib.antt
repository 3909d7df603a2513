pub mod Limits
pub mod Refusals
pub mod Signs
pub mod Table
pub mod Times
