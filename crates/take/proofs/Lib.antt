-- The laws that the proofs of `take` cite.
pub mod Taken
