-- What may be said of every text; and that the promise leaves one.
pub mod Laws
pub mod Determined
-- Bytes written one behind the other.
pub mod Written
-- The digits of a number, the lines of a message, and the whole text.
mod Digits
mod Passed
mod Told
