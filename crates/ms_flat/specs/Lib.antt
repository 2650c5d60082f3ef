pub mod Keywords
pub mod Flat
pub mod refinement
