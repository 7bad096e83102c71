-- General laws, with no kernel in them.
pub mod Logic
pub mod Test
pub mod All
pub mod Count
pub mod Numbers
pub mod Chain
pub mod Walk
pub mod Pool
pub mod PoolTest
pub mod Store
pub mod StoreTest
pub mod Tally
