pub mod Arms
pub mod Bodies
pub mod Modules
pub mod Nodes
pub mod ObjectFlags
pub mod Sizes
pub mod Waiting
pub mod Walk
