-- Demand 3 in the words of documents 00 and 01.
pub mod Words
pub mod Witness
