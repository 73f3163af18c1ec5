-- Two Replies over one path (document 02, M-100): the loss of each link.
pub mod Path
pub mod Loss
pub mod Risen
pub mod Inside
