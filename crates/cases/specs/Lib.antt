-- Worked cases as one table, and the statement that the definitions meet it.
pub mod Ask
pub mod Table
