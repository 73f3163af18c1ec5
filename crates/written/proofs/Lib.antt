-- The laws that other crates cite, in one place; and that each promise fixes its answer.
pub mod Laws
pub mod Determined
-- What is stored.
mod Stores
