-- What only the proofs need: how the code keeps and does what the definitions beside this folder say.
pub mod Limits
pub mod Ranges
pub mod ReadBack
pub mod Words
