-- What only the proofs need: how the code keeps and does what the definitions beside this folder say.
pub mod Classes
pub mod Forms
pub mod Frames
