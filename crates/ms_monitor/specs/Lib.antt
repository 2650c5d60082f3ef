pub mod Traces
pub mod refinement
