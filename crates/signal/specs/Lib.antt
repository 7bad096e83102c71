-- What the contracts of `signal` cite: `catch_up_timers` as it is computed.
pub mod Marks
