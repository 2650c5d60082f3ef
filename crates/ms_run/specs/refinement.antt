-- What only the proofs need: how the code keeps and does what the definitions beside this folder say.
pub mod Counts
pub mod Told
pub mod Statuses
