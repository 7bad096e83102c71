-- The laws that the proofs of `block` and of the crates above cite.
pub mod Row
pub mod Sizes
pub mod Enums
pub mod Fits
pub mod Contexts
