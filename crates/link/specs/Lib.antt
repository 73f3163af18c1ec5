-- The loss of one link between two Replies (document 02, M-100).
pub mod Link
