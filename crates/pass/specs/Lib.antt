-- Definitions of waits, timers and the pass (the scheduling part of mod.rs).
pub mod Signal
pub mod Timers
pub mod Waits
pub mod Pick
pub mod Schedule
pub mod Asks
pub mod Padded
