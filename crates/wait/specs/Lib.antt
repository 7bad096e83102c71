-- Waits as they are looked at.
pub mod Looks
