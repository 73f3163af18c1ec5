-- That each promise fixes its answer; and a law for each way out of a function.
pub mod Determined
mod Rows
