-- The laws that the proofs of `asked` cite.
pub mod Idle
