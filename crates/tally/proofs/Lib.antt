-- The laws that the proofs of `tally` cite.
pub mod Held
pub mod Tests
