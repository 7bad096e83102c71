-- The laws that the proofs of `thread` cite.
pub mod Steps
