pub mod Clock
pub mod Descending
pub mod Lawful
pub mod Mapping
