-- The promise leaves one answer.
pub mod Determined
