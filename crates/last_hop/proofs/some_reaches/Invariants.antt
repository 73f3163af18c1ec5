-- `some_reaches`: none of the first k interfaces reaches the client.
use Rattle.std.proofs.Common.{◌≡◌, false}
use Rattle.tables.specs.Tables.{interface_of}
use Rattle.last_hop.specs.LastHop.{some_reaches}
use Rattle.last_hop.proofs.some_reaches.Given as goal

abbrev pub invariant-loop-k : goal.invariant-loop-k
invariant-loop-k l = some_reaches (interface_of l.sheet.format l.sheet.bytes.now) l.r l.client l.k ≡ false
