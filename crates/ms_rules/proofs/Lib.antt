pub mod Bodies
pub mod Contexts
