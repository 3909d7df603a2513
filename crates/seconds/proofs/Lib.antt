pub mod Lining
pub mod Reporting
pub mod Saying
