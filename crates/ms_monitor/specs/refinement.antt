-- What only the proofs need: how the code keeps and does what the definitions beside this folder say.
pub mod Answers
pub mod Colours
pub mod Gaps
pub mod Judging
pub mod Kept
pub mod Shades
pub mod Showing
