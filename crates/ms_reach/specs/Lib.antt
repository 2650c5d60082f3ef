pub mod Reach
pub mod Confined
pub mod Walks
pub mod Count
pub mod refinement
