-- The laws that the proofs of `sync_calls` cite.
pub mod Words
pub mod Found
pub mod Opened
pub mod Waited
