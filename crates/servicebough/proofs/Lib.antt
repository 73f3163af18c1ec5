-- Laws of the entries' promises; and `Determined`: each promise leaves one answer.
mod Rows
pub mod Laws
pub mod Determined
