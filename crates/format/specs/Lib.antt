-- The sizes of a format: what a message, its blocks and the entries of a sheet measure.
pub mod Sizes
