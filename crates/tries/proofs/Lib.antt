-- The laws that the proofs of `tries` cite.
pub mod Fired
pub mod Turns
