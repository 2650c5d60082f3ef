mod Meaning
mod Isolation
pub mod Complete
