-- The time between two arrivals (document 02, M-100).
pub mod Difference
