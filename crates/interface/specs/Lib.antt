-- The interfaces of a sheet (document 01, "Sheet"; document 02 for the MTU): their fields, and the rules on each by itself.
pub mod Interface
