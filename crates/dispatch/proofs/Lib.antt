-- The laws that the proofs of `dispatch` cite.
pub mod Numbers
