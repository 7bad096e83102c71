-- Lists of operations.
pub mod Step
pub mod Keeps
pub mod Guests
pub mod Events
pub mod Demand
pub mod Plays
pub mod Witness
