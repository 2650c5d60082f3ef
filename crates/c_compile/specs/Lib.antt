pub mod Refusals
pub mod refinement
