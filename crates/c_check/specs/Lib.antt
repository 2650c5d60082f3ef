pub mod Initialisers
pub mod Statements
pub mod Declarations
pub mod Units
pub mod refinement
