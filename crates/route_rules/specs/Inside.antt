-- Inside: what only the contracts of inner functions cite, here and in the crates above. No entry's promise rests on it, and a reader of the definitions may pass it over.
-- Here: the rules on a route in the groups in which the code looks at them.
use Rattle.std.specs.Prelude.{ℕ, ◌-◌, ◌^◌, Bool, ◌&&◌, eqb}
use Rattle.wire.specs.Numbers.{bytes64}
use Rattle.memory.specs.Inside.{le64}
use Rattle.route_entry.specs.declared.Route.{Route}
use Rattle.interface.specs.Interface.{most_interfaces}
use Rattle.prefix.specs.Prefix.{zero_past}
use Rattle.route_rules.specs.Rules.{length_ok, flags_ok, group_ok, incoming_ok, upstream_ok, map_ok}

-- length, flags and group, for a kind
abbrev pub fits_kind : ℕ → ℕ → ℕ → ℕ → Bool
fits_kind kind bits flags group = length_ok kind bits && flags_ok kind flags && group_ok kind group

-- what is zero in every route, and the source past its length
abbrev pub zeros_ok : Route → Bool
zeros_ok r = eqb r.zero 0 && eqb r.zeros 0 && zero_past r.length r.source

-- incoming interface and upstream
abbrev pub upward_ok : ℕ → Route → Bool
upward_ok interfaces r = upstream_ok r.incoming r.upstream && incoming_ok interfaces r.incoming

-- the three maps
abbrev pub maps_ok : ℕ → Route → Bool
maps_ok interfaces r = map_ok interfaces r.forward && map_ok interfaces r.pruned && map_ok interfaces r.stopped

-- the bits of a map that no interface has, where there are so many, in memory's order
abbrev pub outside_map : ℕ → ℕ
outside_map interfaces = le64 (bytes64 (2 ^ most_interfaces - 2 ^ interfaces)) 0
