-- What only the proofs need: how the code keeps and does what the definitions beside this folder say.
pub mod Adapters
pub mod Devices
pub mod Kept
pub mod Memory
pub mod Script
pub mod Source
pub mod System
