pub mod Faults
pub mod Sink
pub mod Files
pub mod Shelf
pub mod refinement
