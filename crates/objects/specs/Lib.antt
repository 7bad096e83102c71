-- What opening a handle leaves.
pub mod Open
