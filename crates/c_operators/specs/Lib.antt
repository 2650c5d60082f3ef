pub mod Operations
pub mod refinement
