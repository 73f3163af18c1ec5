-- The laws that other crates cite, in one place; and that each promise fixes its outcome.
pub mod Laws
pub mod Determined
-- Where they are proved; and a law for each way out of a function.
mod Sent
mod On
mod Rows
mod Writes
