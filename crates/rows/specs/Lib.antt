-- One record of a block anew, and what the block holds then.
pub mod Rows
pub mod Over
pub mod Sizes
pub mod Current
pub mod Holds
pub mod Head
pub mod Mapped
pub mod Slots
pub mod Place
