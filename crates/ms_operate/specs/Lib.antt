pub mod Outcomes
pub mod Effects
pub mod Integers
pub mod Accesses
pub mod Numbers
pub mod Memories
