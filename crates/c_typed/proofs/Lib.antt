pub mod Sequences
pub mod Constants
