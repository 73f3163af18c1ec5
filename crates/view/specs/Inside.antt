-- Inside: what only the contracts of inner functions cite, here and in the crates above. No entry's promise rests on it, and a reader of the definitions may pass it over.
use Rattle.std.specs.Prelude.{ℕ, ◌<◌, ◌≡◌, Option, Some, None}
use Rattle.route_entry.specs.Route.{unknown}
use Rattle.route_entry.specs.declared.Route.{Route}

-- a route's incoming interface is one of so many, or unknown, as in every valid sheet
abbrev pub RouteThere : ℕ → Option Route → Type 0
RouteThere interfaces None = Unit {0}
RouteThere interfaces (Some r) = (r.incoming ≡ unknown → ⊥) → r.incoming < interfaces
