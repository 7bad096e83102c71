-- The laws that the proofs of `schedule` cite.
pub mod Halves
pub mod Passes
