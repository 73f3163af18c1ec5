-- What the crates above may cite of a sheet's tables.

-- an interface, and a route, that is counted keeps its rules
pub use Rattle.tables.proofs.Entries.{interface_keeps, route_keeps}
-- where an interface stands, and that what is read there is that interface
pub use Rattle.tables.proofs.Reading.{place_within, interface_told}
-- where a route stands, and those beside it up to the end of its block, of which there are some
pub use Rattle.tables.proofs.Entries.{route_bytes_lem}
pub use Rattle.tables.proofs.Reading.{route_placed, route_within, routes_beside_lem, beside_place, beside_some}
-- a valid sheet has a first block, in which its switches stand
pub use Rattle.tables.proofs.Reading.{valid_long}
-- who holds an address: an interface of the sheet, the lowest that does; nobody only where none does
pub use Rattle.tables.proofs.Holders.{holder_there, holder_holds, holder_lowest, nobody_holds}
