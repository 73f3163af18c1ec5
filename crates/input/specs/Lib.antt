-- What the program `walk` reads.
pub mod Input
