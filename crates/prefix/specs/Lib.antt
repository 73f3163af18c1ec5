-- Prefixes of addresses (document 01, "Sheet").
pub mod Prefix
