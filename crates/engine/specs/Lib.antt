-- One router's step as a whole (document 01, "One router's step").
pub mod Step
pub mod Inside
