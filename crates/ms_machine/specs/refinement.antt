-- What only the proofs need: how the code keeps and does what the definitions beside this folder say.
pub mod Accesses
pub mod Doing
pub mod Holding
pub mod Safety
pub mod Stepped
pub mod StraightLine
