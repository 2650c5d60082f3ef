-- What only the proofs need: how the code keeps and does what the definitions beside this folder say.
pub mod Built
pub mod Classes
pub mod Listed
pub mod Meaning
pub mod Table
