-- The routes of a sheet (document 01, "Sheet"): their fields.
pub mod Route
