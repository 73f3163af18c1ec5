-- The tables of a sheet (document 01, "Sheet"): how they are read.
pub mod Tables
pub mod Inside
