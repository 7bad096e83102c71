-- The place of a thread that a call makes.
pub mod Made
pub mod Answered
