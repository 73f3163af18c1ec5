-- A Standard Response Block and an answer record, and their bytes (document 01, "Messages" and "One router's step").
pub mod Bytes
pub mod Inside
