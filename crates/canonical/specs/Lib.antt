-- Parts of a block, each compared with the encoding of what it decodes to.
pub mod Rows
pub mod Parts
pub mod Kinds
