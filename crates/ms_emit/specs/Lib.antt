pub mod Codes
pub mod refinement
