-- Each guest call keeps a state sound.
pub mod Resolves
pub mod Call
pub mod Sync
pub mod Arbiter
pub mod Handles
pub mod Timers
pub mod Threads
pub mod Collect
