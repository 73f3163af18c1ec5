-- `Determined`: each promise leaves one answer.
mod Shifts
mod Prefixes
pub mod Determined
