pub mod refinement
