-- The laws that the proofs of `scheduler` cite.
pub mod Places
pub mod Choice
