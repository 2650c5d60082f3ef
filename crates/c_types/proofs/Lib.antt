pub mod Placing
pub mod Growth
pub mod Nesting
pub mod Alignment
