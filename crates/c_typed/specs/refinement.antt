-- What only the proofs need: how the code keeps and does what the definitions beside this folder say.
pub mod Expressions
pub mod FormViews
pub mod Nesting
pub mod Types
pub mod Views
