pub mod Host
pub mod Words
