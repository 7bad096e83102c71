-- A law about handles that proofs of guest calls cite.
pub mod Handles
