-- What is proved of the demands, in one page; the wrong programs that they shut out; and the entries that a host calls.
pub mod Demands
pub mod ShutOut
pub mod Entries
-- Where it is proved that the product meets them and that they leave no choice.
mod EngineMet
mod ClockMet
mod WalkMet
mod ReadMet
mod Starts
