-- The laws that the proofs of `ending` cite.
pub mod Ended
