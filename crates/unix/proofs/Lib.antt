-- The law that other crates cite; and `Determined`: the promise leaves one answer.
pub mod Laws
pub mod Determined
