pub mod Sequences
pub mod Growing
pub mod Rebuilding
pub mod Arriving
pub mod Depths
pub mod Going
