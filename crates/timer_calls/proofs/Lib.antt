-- The laws that the proofs of `timer_calls` cite.
pub mod Found
pub mod Opened
pub mod Named
