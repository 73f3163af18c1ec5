-- The rules on the routes of a sheet (document 01, "Sheet"), each by itself.
pub mod Rules
pub mod Inside
