-- Threads: making, ending, and the ends of waits (thread.rs, and the thread part of mod.rs).
pub mod Thread
pub mod Threads
pub mod Marks
