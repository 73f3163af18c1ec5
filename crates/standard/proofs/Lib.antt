-- Each promise leaves one answer.
pub mod Determined
