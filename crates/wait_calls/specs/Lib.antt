-- What the calls that wait do in the block.
pub mod Waits
pub mod Named
pub mod Opens
pub mod Room
pub mod Near
pub mod Over
