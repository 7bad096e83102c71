-- The laws that the proofs of `threads` cite.
pub mod Found
pub mod Forgotten
pub mod Handle
pub mod Made
