-- A wait or a thread that ends keeps the state sound.
pub mod Ends
