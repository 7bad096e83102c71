-- Question 2 as it is computed, and that it is the test of its definition.
pub mod Turns
pub mod Linear
pub mod SameTls
pub mod Apart
pub mod LinearObjects
pub mod ObjectSteps
pub mod Lone
pub mod Same
