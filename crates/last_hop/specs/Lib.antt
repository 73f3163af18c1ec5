-- The proper last hop (document 01, "One router's step").
pub mod LastHop
pub mod Inside
