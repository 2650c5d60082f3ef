-- What only the proofs need: identities under other names, the two sides of a store, what is alike in two stores, and what is asked of a
-- run along its steps.
pub mod Renaming
pub mod Apart
pub mod Calm
