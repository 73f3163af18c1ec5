-- What the router looks at when it answers.
use Rattle.std.specs.Prelude.{ℕ, Bool, cond, List, eqb, Option, Some, None}
use Rattle.route_entry.specs.Route.{unknown}
use Rattle.tables.specs.Tables.{interface_of, prohibited_of}
use Rattle.forwarding.specs.declared.View.{View}
use Rattle.header.specs.declared.Header.{Header}
use Rattle.header.specs.Header.{header_of}
use Rattle.drops.specs.Arrival.{Arrival, is_query, route_for, last_hop_for}
use Rattle.format.specs.declared.Format.{Format}
use Rattle.route_entry.specs.declared.Route.{Route}
use Rattle.interface.specs.declared.Interface.{Interface}

-- the incoming interface that a route names, where it is known
unfoldable pub incoming_for : Format → List ℕ → Option Route → Option Interface
incoming_for F sheet None = None
incoming_for F sheet (Some r) =
    let known = Some (interface_of F sheet r.incoming) in
    cond (eqb r.incoming unknown) None known

-- what the router looks at, for a header that came in on an interface at a time, with the route for it
unfoldable pub view_with : Format → List ℕ → Header → Option Route → Bool → ℕ → ℕ → View
view_with F sheet h chosen proper receiving time =
    record {
      query = is_query h;
      proper = proper;
      chosen = chosen;
      incoming = incoming_for F sheet chosen;
      prohibited = prohibited_of sheet;
      number = receiving;
      here = interface_of F sheet receiving;
      group = h.group;
      time = time;
    }

-- the same of what arrived
abbrev pub view_of : Format → Arrival → ℕ → List ℕ → View
view_of F a time sheet =
    let h = header_of a.message in
    view_with F sheet h (route_for F sheet h) (last_hop_for F sheet h) a.receiving time
