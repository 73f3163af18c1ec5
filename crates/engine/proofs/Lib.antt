-- The laws that other crates cite, in one place; and that the promise fixes the outcome.
pub mod Laws
pub mod Determined
-- Where they are proved; and a law for each way out of a function.
mod Taking
mod Entering
mod Steps
