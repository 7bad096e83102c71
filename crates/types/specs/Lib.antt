-- The numbers of every enum, and tests by variant.
pub mod Thread
pub mod Sync
pub mod Object
pub mod Tests
pub mod Refusal
