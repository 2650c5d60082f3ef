mod Counted
pub mod FarValues
pub mod Stacked
mod Writing
mod Laid
mod Beginnings
pub mod Places
pub mod Items
pub mod Kept
mod Branches
mod Calls
mod Repeats
mod Tested
