pub mod Units
pub mod refinement
