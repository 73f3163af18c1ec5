-- A router's Standard Response Block (document 01, "One router's step", 2, 4 and 5): what it is filled with, and what ends a trace.
pub mod Fill
pub mod Inside
