-- The laws that the proofs of `rows` cite.
pub mod Laws
