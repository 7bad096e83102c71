-- The laws that the proofs of `codec` and of the crates above cite.
pub mod Laws
pub mod Rows
pub mod Back
pub mod Same
pub mod Fit
