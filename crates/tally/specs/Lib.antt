-- The definitions that the contracts of `tally` cite.
pub mod Lists
pub mod Columns
pub mod Place
pub mod Chain
