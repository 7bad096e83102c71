-- The laws that the proofs of `release` cite.
pub mod Released
pub mod Lists
