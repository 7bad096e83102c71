-- The premises of the demand can be met.
pub mod Witness
