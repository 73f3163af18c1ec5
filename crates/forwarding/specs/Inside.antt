-- Inside: what only the contracts of inner functions cite, here and in the crates above. No entry's promise rests on it, and a reader of the definitions may pass it over.
use Rattle.std.specs.Prelude.{ℕ, Bool, List, [], ◌∷◌}
use Rattle.rows.specs.Rows.{Row, row}
use Rattle.route_entry.specs.declared.Route.{Route}
use Rattle.route_entry.specs.Route.{prune_sent, in_map}
use Rattle.forwarding.specs.Code.{code_scoped, code_prune_sent, code_prune_rcvd, code_not_forwarding}

-- the codes from SCOPED on, where a route was chosen: by the scope, the route, and the number of the receiving interface
abbrev pub late_codes : Bool → Route → ℕ → List Row
late_codes inScope r number =
    row code_scoped inScope
    ∷ row code_prune_sent (prune_sent r)
    ∷ row code_prune_rcvd (in_map r.pruned number)
    ∷ row code_not_forwarding (in_map r.stopped number)
    ∷ []
