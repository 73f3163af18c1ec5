-- The laws that other crates cite, in one place; and that each promise fixes its answer.
pub mod Laws
pub mod Determined
-- Where they are proved.
mod Bytes
mod Along
mod Rows
mod Linking
mod Links
