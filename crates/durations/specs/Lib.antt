pub mod Totals
pub mod Shown
