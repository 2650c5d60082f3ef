pub mod Sums
pub mod Falls
pub mod Ways
pub mod Stopping
pub mod Parsing
