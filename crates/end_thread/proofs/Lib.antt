-- The laws that the proofs of `end_thread` cite.
pub mod Place
