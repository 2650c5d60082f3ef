pub mod Counts
pub mod Sizes
pub mod Scopes
pub mod Defined
pub mod Small
