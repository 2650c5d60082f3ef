-- What the laws say of the module that a unit has, beside what the program's contract needs.
pub mod Interface
pub mod LoopsAndCalls
pub mod Waits
