-- Laws that the crates above cite; and `Determined`: each promise leaves one answer.
mod Alike
mod Sums
mod Unused
mod Frames
pub mod Laws
pub mod Determined
