-- What the calls on timers do in the block.
pub mod Kinds
pub mod Named
