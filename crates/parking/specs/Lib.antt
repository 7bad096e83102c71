-- Each guest call that can block keeps a state sound.
pub mod Wakes
pub mod Parks
pub mod Lists
pub mod Begins
pub mod Arbitrates
pub mod Waits
pub mod Calls
