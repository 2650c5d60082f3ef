pub mod Parts
pub mod Types
pub mod Instrs
pub mod Written
pub mod refinement
