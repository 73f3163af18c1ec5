-- The clock as C calls it.
pub mod Ticks
