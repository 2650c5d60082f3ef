pub mod Outside
pub mod Meaning
pub mod Isolation
pub mod Top
pub mod refinement
