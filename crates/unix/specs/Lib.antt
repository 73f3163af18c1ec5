-- UNIX time to units (document 01, "Clock").
pub mod Unix
