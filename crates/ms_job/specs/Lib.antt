pub mod Words
pub mod Jobs
pub mod Schedules
pub mod refinement
