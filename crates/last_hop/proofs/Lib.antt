-- The promise leaves one answer.
pub mod Determined
-- One pass over the interfaces of a map.
mod Reached
