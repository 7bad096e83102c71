-- The laws that the proof of `put_made` cites.
pub mod Puts
