-- Inside: what only the contracts of this crate's own functions cite. No entry's promise rests on it, and a reader of the definitions may pass it over.
-- Here: how one pass over a map finds an interface.
use Rattle.std.specs.Prelude.{ℕ, ◌%◌, Bool, false, ◌&&◌, cond, eqb}
use Rattle.prefix.specs.Prefix.{same_prefix}
use Rattle.interface.specs.Interface.{is_multicast}
use Rattle.interface.specs.declared.Interface.{Interface}

-- what is left of a map has its lowest bit set, and the interface of that bit is multicast and has the client in its subnet
unfoldable pub reaches_by : ℕ → ℕ → Interface → Bool
reaches_by map client i = cond (eqb (map % 2) 0) false (is_multicast i && same_prefix i.length i.address client)
