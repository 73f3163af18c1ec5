-- A trace from router to router (document 01, "Walk").
pub mod Yard
pub mod Holders
pub mod Walk
pub mod Faithful
pub mod Inside
