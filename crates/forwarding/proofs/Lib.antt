-- The law that other crates cite; and that the promise fixes its answer.
pub mod Laws
pub mod Determined
-- A law for each way out of a function.
mod Rows
mod Codes
