-- The laws that the proofs of `wait_calls` cite.
pub mod Words
pub mod Still
pub mod Far
pub mod Holding
pub mod Begins
pub mod Now
pub mod Ways
pub mod Takes
pub mod Looked
pub mod Opens
pub mod Makes
pub mod Finds
pub mod Lists
pub mod Whole
