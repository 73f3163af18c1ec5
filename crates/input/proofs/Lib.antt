-- What may be said of every input; and that each promise leaves one answer.
pub mod Laws
pub mod Determined
-- The times set so far, and the first bytes.
mod Given
