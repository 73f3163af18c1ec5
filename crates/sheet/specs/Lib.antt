-- A sheet (document 01, "Sheet"): the rules on the whole, and what it holds.
pub mod Sheet
pub mod Inside
