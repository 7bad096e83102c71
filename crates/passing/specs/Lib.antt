-- Each change of a pass keeps a state sound.
pub mod Alike
pub mod Objects
pub mod Timers
pub mod Signal
pub mod Widths
pub mod Threads
pub mod Priority
pub mod Awake
pub mod Fates
pub mod Tries
pub mod Picks
pub mod Switch
pub mod Pass
pub mod Sleeps
pub mod Begins
