-- Blocks in mid-operation.
pub mod Encoded
