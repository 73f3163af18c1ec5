-- What the program `walk` prints.
pub mod Ascii
pub mod Text
pub mod Inside
