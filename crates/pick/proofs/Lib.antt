-- The laws that the proofs of `pick` cite.
pub mod Steps
pub mod Turns
