pub mod Integers
pub mod Types
pub mod Layout
pub mod refinement
