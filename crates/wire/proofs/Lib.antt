-- Laws that the crates above cite; and `Determined`: each promise leaves one answer.
mod Writes
pub mod Laws
pub mod Behind
pub mod Determined
