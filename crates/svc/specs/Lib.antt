-- Definitions of the guest calls (svc.rs), and of collect.
pub mod Call
pub mod Table
pub mod Threads
pub mod Sync
pub mod Timers
pub mod Arbiter
pub mod Waits
pub mod Handles
pub mod Dispatch
pub mod Collect
