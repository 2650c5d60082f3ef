-- What only the proofs need: how the code keeps and does what the definitions beside this folder say.
pub mod Logs
pub mod Making
pub mod Outside
pub mod Parting
pub mod Parts
pub mod Ready
pub mod Rows
pub mod Runs
pub mod Schedules
pub mod Steppers
