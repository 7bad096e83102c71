-- The definitions that the contracts of `units` cite.
pub mod Ticks
