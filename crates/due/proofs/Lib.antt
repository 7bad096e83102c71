-- The laws that the proofs of `due` cite.
pub mod Looked
pub mod Slots
pub mod Caught
