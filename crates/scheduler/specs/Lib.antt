-- The switch as it is computed.
pub mod Switch
pub mod Turn
