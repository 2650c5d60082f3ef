pub mod Parts
pub mod Types
pub mod Instrs
pub mod Shown
pub mod refinement
