pub mod Bitwise
pub mod Sameness
pub mod Setting
pub mod Units
