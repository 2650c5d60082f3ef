pub mod Lists
pub mod Arguments
