-- The clock (document 01, "Clock", and the paragraph on what it refuses).
pub mod Clock
pub mod Readings
