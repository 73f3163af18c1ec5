-- Laws that the crates above cite; and `Determined`: each promise leaves one answer.
mod Masks
mod Rules
pub mod Laws
pub mod Determined
