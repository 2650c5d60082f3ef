pub mod Enumerations
pub mod Structs
pub mod Functions
pub mod Initials
pub mod refinement
