-- The laws that the proofs of `arbiter` cite.
pub mod Wakes
