-- A quiet release as it is computed.
pub mod Alone
