pub mod Fronts
pub mod Places
pub mod Fractions
pub mod Lawful
