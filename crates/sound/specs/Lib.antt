-- Question 2 of document 01, clause by clause: the test, the fact, and that the one tells the other.
pub mod View
pub mod Threads
pub mod Tls
pub mod Handles
pub mod Objects
pub mod Records
pub mod Sound
pub mod Question
