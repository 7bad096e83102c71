-- What a pass does to waits and timers, and who runs after it.
-- waits
pub mod Wait
pub mod Turn
pub mod Rest
pub mod Pass
pub mod Late
pub mod Ends
pub mod Others
pub mod Parks
-- who runs
pub mod Alive
pub mod Lowest
pub mod Runs
pub mod Relief
-- timers
pub mod Grid
pub mod Drift
pub mod Clock
pub mod Fires
pub mod Keeps
