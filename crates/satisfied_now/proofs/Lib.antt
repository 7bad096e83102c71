-- The laws that the proofs of `satisfied_now` cite.
pub mod Open
