-- What the crates above may cite of a sheet.

-- a valid sheet, rule by rule: its interface blocks and its route blocks are each a run of blocks of which all but the last are full
pub use Rattle.sheet.proofs.Valid.{Valid, valid, Run, interface-run, route-run}
-- what the check tells: whether it is valid, its counts, no counts where it is not, and at most 64 interfaces
pub use Rattle.sheet.proofs.Told.{layout_valid, valid_told, told_some, told_none, told_layout, interfaces_few}
-- an interface, and a route, that is counted: the sheet is valid
pub use Rattle.sheet.proofs.Told.{interface_valid, interface_few, route_valid}
