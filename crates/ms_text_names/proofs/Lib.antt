pub mod Kept
pub mod Firsts
pub mod Lists
pub mod Repeats
pub mod Types
