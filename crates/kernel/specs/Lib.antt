-- The definitions that the contracts of `kernel` cite.
pub mod Fresh
pub mod NextEvent
pub mod Marks
