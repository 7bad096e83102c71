-- The layout of what the host lends: docs/STATE.md in definitions.
pub mod Table
pub mod Thread
pub mod Slot
pub mod Block
pub mod Context
pub mod Tables
pub mod Sizes
