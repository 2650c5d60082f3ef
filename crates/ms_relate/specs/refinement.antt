-- What only the proofs need: how the segment memory keeps the objects of C, and what its instructions do to them.
pub mod Acts
pub mod Copies
pub mod Homes
pub mod Laid
pub mod Operations
pub mod Relation
