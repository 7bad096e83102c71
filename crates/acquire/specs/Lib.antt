-- What the contracts of `acquire` cite: `is_signaled` as it is computed.
pub mod Looks
