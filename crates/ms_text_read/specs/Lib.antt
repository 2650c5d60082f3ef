pub mod Answers
pub mod refinement
