-- What a try does.
pub mod Tries
