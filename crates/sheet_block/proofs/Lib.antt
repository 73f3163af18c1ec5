-- Laws that the crates above cite; and `Determined`: each promise leaves one answer.
pub mod Laws
pub mod Determined
-- The entries in use of a block whose frame holds.
pub mod Frames
