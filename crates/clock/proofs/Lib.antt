-- Laws over the clock's definitions, for all readings whatever.
pub mod Laws
pub mod Determined
-- The time issued, opened once for the laws.
mod Time
