-- The head that a new thread leaves.
pub mod Made
