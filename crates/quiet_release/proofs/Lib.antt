-- The laws that the proofs of `quiet_release` cite.
pub mod Calm
pub mod Still
