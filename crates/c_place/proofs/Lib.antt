pub mod Lists
pub mod Marking
