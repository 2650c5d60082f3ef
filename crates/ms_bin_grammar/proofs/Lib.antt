pub mod Spelling
pub mod Wider
