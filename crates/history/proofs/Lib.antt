-- What holds of lists of operations.
pub mod Events
pub mod Demand
pub mod Plays
pub mod Witness
