-- What the proofs of `canonical` share.
pub mod Tests
pub mod Words
