-- The recent list: its layout and rules, and what is in it.
pub mod Layout
pub mod Entries
pub mod Inside
