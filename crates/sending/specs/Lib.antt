-- What a router sends (document 01, "One router's step").
pub mod Answer
pub mod Inside
