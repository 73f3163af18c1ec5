-- Numbers in memory's order.
pub mod Inside
