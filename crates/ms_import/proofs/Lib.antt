pub mod SameTypes
pub mod Exports
