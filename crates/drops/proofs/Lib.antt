-- The laws that other crates cite, in one place; and that the promise fixes its answer.
pub mod Laws
pub mod Determined
-- A law for each way out of a function.
mod Rows
mod Once
