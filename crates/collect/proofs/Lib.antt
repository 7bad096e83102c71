-- The laws that the proofs of `collect` cite.
pub mod Found
pub mod Absent
