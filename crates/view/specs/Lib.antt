-- What a router looks at when it answers, and the room on the link (document 02, M-102).
pub mod View
pub mod Room
pub mod Inside
