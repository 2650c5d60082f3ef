pub mod Leb128
pub mod Shortest
pub mod refinement
