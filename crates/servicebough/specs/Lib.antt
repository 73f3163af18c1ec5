-- What the entries for C hand over beyond the definitions of the crates below.
pub mod Answers
