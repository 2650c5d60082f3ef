pub mod Rotations
pub mod Zeros
