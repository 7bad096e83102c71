-- The laws that the proofs of `signal` cite.
pub mod Steps
pub mod Pulses
pub mod Timers
