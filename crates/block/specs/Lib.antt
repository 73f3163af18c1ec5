-- A block of 512 bytes (document 01, "Sheet"): its frame, and the sum over its words.
pub mod Sum
pub mod Block
pub mod Inside
