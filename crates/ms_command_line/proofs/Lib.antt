pub mod Building
pub mod Complete
pub mod Counts
pub mod Getters
pub mod Values
pub mod Walks
