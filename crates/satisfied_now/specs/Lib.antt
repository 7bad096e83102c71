-- A wait on a list of handles as it is looked at.
pub mod Found
