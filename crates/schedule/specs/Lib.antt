-- What a pass writes into the head.
pub mod Pass
