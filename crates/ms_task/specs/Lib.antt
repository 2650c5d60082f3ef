pub mod Thread
pub mod Control
pub mod refinement
