-- What the tests of specs/ tell.
pub mod Threads
pub mod Sound
pub mod Question
