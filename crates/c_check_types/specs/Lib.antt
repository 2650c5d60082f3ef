pub mod State
pub mod TypeEquality
pub mod Scopes
pub mod Operators
pub mod Constants
pub mod Types
pub mod refinement
