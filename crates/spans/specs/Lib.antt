pub mod Bits
pub mod Magnitudes
pub mod Spans
