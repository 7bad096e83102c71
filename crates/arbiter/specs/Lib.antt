-- What ArbitrateAddress does, as its code looks at it.
pub mod Park
pub mod Marks
