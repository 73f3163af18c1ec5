-- Which route (document 01, "Which route").
pub mod Choice
pub mod Inside
