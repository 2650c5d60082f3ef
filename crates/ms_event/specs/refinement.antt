-- What only the proofs need: how the code keeps and does what the definitions beside this folder say.
pub mod Reading
pub mod Tally
