-- Inside: what only the contracts of inner functions cite, here and in the crates above. No entry's promise rests on it, and a reader of the definitions may pass it over.
use Rattle.std.specs.Prelude.{◌≤◌, Option, Some, None}
use Rattle.prefix.specs.Prefix.{address_bits}
use Rattle.route_entry.specs.declared.Route.{Route}

-- a route's source length is at most 32, as in every valid sheet, so that S and mask fit their byte
abbrev pub RouteFits : Option Route → Type 0
RouteFits None = Unit {0}
RouteFits (Some r) = r.length ≤ address_bits
