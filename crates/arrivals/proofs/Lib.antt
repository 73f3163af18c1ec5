-- Laws of the time between two arrivals; and `Determined`: the promise leaves one answer.
pub mod Laws
pub mod Determined
