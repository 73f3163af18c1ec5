-- Messages: the blocks behind the header, and the rules by which a message is accepted.
pub mod Blocks
pub mod Room
pub mod Check
pub mod Inside
