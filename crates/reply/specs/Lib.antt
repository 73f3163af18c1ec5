-- The reader of Replies (document 02, M-100): what is refused, the blocks that are handed out, and how a reader goes through them.
pub mod Check
pub mod Reader
pub mod Copy
pub mod Inside
