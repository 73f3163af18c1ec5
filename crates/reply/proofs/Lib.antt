-- The laws that other crates cite, in one place; and that each promise fixes its answer.
pub mod Laws
pub mod Determined
-- Where they are proved.
mod Rows
mod Readable
mod Places
mod Search
mod Filled
mod Starts
mod Copying
mod Reading
mod Answers
mod Settled
mod Known
