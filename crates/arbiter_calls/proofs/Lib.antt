-- The laws that the proofs of `arbiter_calls` cite.
pub mod Records
pub mod Handle
pub mod Found
pub mod Woken
pub mod ByKind
