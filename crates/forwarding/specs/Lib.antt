-- The forwarding codes and their order (document 01, "One router's step", 3), over what a router looks at.
pub mod View
pub mod Code
pub mod Inside
