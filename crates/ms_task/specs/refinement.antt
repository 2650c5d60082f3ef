-- What only the proofs need: how the code keeps and does what the definitions beside this folder say.
pub mod Shared
pub mod Far
pub mod Frames
pub mod Marks
pub mod View
