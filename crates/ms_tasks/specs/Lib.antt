pub mod Alone
pub mod Joined
pub mod States
pub mod Tasks
pub mod refinement
