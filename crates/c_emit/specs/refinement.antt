-- What only the proofs need: how the code keeps and does what the definitions beside this folder say.
pub mod Codes
pub mod Exits
pub mod Found
pub mod Keys
pub mod LeafWalk
pub mod Leaves
pub mod Placed
pub mod Sites
pub mod Steps
pub mod Used
