-- Demand 3 over operations one after the other.
pub mod Course
pub mod Read
pub mod Asks
pub mod Ends
pub mod Runs
pub mod Grid
pub mod Holds
