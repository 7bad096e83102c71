-- The definitions that the contracts of `codec` cite.
pub mod Bytes
pub mod Layout
pub mod Groups
