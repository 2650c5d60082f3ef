pub mod Wrapping
pub mod Ranges
pub mod Operators
pub mod Conversions
