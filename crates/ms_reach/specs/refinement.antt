pub mod Marking
pub mod Chunks
pub mod Leading
pub mod Closing
pub mod OwnValues
pub mod Reaching
