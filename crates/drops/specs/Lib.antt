-- What arrives at a router, and whether it is dropped (document 01, "Drop numbers").
pub mod Arrival
pub mod Drop
pub mod Inside
