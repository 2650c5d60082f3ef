pub mod Adapters
pub mod Counts
pub mod Kept
