-- Numbers in bytes and parts of byte lists: what every other crate stands on.
pub mod Numbers
pub mod Parts
