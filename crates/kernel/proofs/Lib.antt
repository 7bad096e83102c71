-- The laws that the proofs of `kernel` and the crates above cite.
pub mod Contains
pub mod Rows
pub mod Steps
pub mod FreshSound
