-- The laws that the proofs of `handle_calls` cite.
pub mod Removed
pub mod Written
pub mod Found
pub mod Crowded
