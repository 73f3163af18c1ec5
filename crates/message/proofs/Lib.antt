-- The laws that other crates cite, in one place; and that each promise fixes its answer.
pub mod Once
pub mod Laws
pub mod Determined
-- Where they are proved.
mod Cut
mod Heads
mod Turns
mod Rows
mod Fields
mod Standards
mod Append
mod Write
mod Accept
mod Sent
mod Bytes
