-- Laws that the crates above cite (Laws), and those that this crate's own proofs cite.
mod Sheets
mod Holders
mod Calls
mod Turns
mod Runs
mod Traces
mod Carried
mod Faithful
mod Rows
mod Refusals
pub mod Laws
pub mod Determined
