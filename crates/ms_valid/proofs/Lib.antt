pub mod Shapes
pub mod Parts
pub mod Sequences
pub mod Distinct
pub mod Heads
pub mod Verdicts
pub mod OneInstr
