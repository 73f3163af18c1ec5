-- Laws that the crates above cite; and `Determined`: each promise leaves one answer.
mod Places
mod Parts
mod Entries
mod Holders
mod Reading
pub mod Laws
pub mod Determined
