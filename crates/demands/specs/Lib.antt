-- The demands of documents 01 and 02 on any engine, clock, walk and reader of Replies.
pub mod Engine
pub mod Clock
pub mod Walk
pub mod Read
pub mod Entries
