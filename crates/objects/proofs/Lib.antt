-- The laws that the proofs of `objects` cite.
pub mod Made
pub mod Found
pub mod Opened
pub mod Sound
pub mod Calls
pub mod Changed
pub mod Room
pub mod Names
pub mod Pseudo
