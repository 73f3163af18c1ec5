-- Classes of IPv4 addresses.
pub mod Addresses
