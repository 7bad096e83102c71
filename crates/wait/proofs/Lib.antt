-- The laws that the proofs of `wait` cite.
pub mod Place
