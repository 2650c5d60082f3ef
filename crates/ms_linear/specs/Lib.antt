pub mod Memory
pub mod Table
pub mod Values
pub mod refinement
