-- The laws that the proofs of `spawn` cite.
pub mod Forgets
pub mod Made
