-- What is found when a guest makes a thread.
pub mod Made
