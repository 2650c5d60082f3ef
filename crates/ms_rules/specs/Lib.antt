pub mod Instructions
pub mod Context
pub mod Typing
pub mod Modules
