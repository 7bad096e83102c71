-- What ArbitrateAddress does in the block.
pub mod Record
pub mod Kinds
pub mod Found
