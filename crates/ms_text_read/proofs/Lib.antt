pub mod Params
pub mod Stops
pub mod Named
pub mod Texts
pub mod Among
