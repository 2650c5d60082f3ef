pub mod Threads
pub mod Ends
pub mod Crews
pub mod Words
pub mod Placed
pub mod Correct
