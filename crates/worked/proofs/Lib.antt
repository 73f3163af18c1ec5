-- The worked examples; and what is opened to compute them.
pub mod Worked
pub mod Opened
