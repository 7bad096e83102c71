-- What each exported operation does to what it is lent.
pub mod Lent
pub mod Operations
pub mod Guest
pub mod Rule
