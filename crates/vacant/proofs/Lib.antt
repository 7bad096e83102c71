-- The laws that the proofs of `vacant` cite.
pub mod Steps
