-- What only the proofs need: how the code keeps and does what the definitions beside this folder say.
pub mod Answers
pub mod Keys
pub mod Settings
pub mod Spaces
