-- The numbers of the message format, and the header (document 01, "Messages").
pub mod Format
pub mod Header
pub mod Rows
