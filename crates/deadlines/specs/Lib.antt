-- What a guest call does to a timed wait.
pub mod Effect
-- by call
pub mod Same
pub mod Threads
pub mod Waits
pub mod Arbiter
-- all calls
pub mod Calls
pub mod Ends
pub mod Collect
