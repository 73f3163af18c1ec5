-- Laws that the crates above cite; and `Determined`: each promise leaves one answer.
mod Ranks
mod ByKind
mod Turns
pub mod Laws
pub mod Determined
