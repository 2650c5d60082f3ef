pub mod Absence
pub mod Positions
