-- The yards and the Query of the worked examples.
pub mod Example
