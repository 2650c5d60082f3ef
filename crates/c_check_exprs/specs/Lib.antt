pub mod Expressions
pub mod refinement
