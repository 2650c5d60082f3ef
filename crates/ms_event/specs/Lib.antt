pub mod Text
pub mod Monitor
pub mod refinement
