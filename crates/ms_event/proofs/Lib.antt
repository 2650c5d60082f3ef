pub mod Digits
pub mod Numbers
pub mod Groups
pub mod Endings
pub mod OneText
pub mod Traces
pub mod Tallies
