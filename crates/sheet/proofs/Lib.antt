-- Laws that the crates above cite; and `Determined`: each promise leaves one answer.
mod Counts
mod Valid
mod Told
mod Leading
mod Layouts
pub mod Laws
pub mod Determined
