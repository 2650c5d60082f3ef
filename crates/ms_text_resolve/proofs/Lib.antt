pub mod Blocks
pub mod Pages
pub mod Parts
pub mod Targets
pub mod Wholes
