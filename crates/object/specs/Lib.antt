-- Objects, handles, records and kept objects (object.rs, and what mod.rs keeps of objects).
pub mod Slots
pub mod Waiters
pub mod Ends
pub mod Store
pub mod Held
pub mod Handles
pub mod Kept
