pub mod Wide
pub mod TypeLists
pub mod Rules
pub mod Parameters
