-- Laws that the crates above cite; and `Determined`: each promise leaves one answer.
mod Stores
pub mod Laws
pub mod Determined
