-- The incoming interface of the route chosen, as the tests and the block read it.
use Rattle.std.specs.Prelude.{ℕ, Bool, false, Option, Some, None}
use Rattle.interface.specs.Interface.{is_boundary}
use Rattle.interface.specs.declared.Interface.{Interface}

-- a boundary on the incoming interface; there is none where it is unknown
abbrev pub boundary_on : Option Interface → Bool
boundary_on (Some i) = is_boundary i
boundary_on None = false

-- its address, 0 if unknown
abbrev pub address_of : Option Interface → ℕ
address_of (Some i) = i.address
address_of None = 0

-- all ones in a count of 64 bits: not counted
abbrev pub not_counted : ℕ
not_counted = 18446744073709551615

-- its input count, all ones if unknown
abbrev pub input_of : Option Interface → ℕ
input_of (Some i) = i.input
input_of None = not_counted
