-- Which calls write a word; the row of a thread that a call makes.
pub mod Word
pub mod Made
