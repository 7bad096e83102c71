-- What a call leaves beside the state, and in the block.
pub mod Outcome
pub mod Findings
pub mod Answer
