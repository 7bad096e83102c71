-- The laws that the proofs of `table` cite.
pub mod Rows
