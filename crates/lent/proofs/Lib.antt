-- The laws that the proofs of the exports cite.
pub mod Cases
