pub mod Overlap
pub mod Place
pub mod refinement
