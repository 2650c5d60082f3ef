-- What only the proofs need: how the code keeps and does what the definitions beside this folder say.
pub mod ByAddress
pub mod Hints
pub mod Kept
pub mod Layout
pub mod Ordered
