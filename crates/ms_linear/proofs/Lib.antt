pub mod Entries
pub mod Targets
