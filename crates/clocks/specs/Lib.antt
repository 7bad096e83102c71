-- What a guest call does to a timer.
pub mod Resolves
-- the calls one by one
pub mod Threads
pub mod Sync
pub mod Timers
pub mod Arbiter
pub mod Handles
pub mod Waits
-- by number
pub mod Call
