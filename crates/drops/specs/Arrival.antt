-- What arrives at a router, the route for it, and whether this is its proper last hop.
use Rattle.std.specs.Prelude.{ℕ, Bool, List, eqb, Option}
use Rattle.sheet.specs.Sheet.{layout_of}
use Rattle.tables.specs.Tables.{interface_of, routes_of}
use Rattle.route.specs.Choice.{which_route}
use Rattle.last_hop.specs.LastHop.{proper_last_hop}
use Rattle.header.specs.declared.Header.{Header}
use Rattle.header.specs.Format.{query, request}
use Rattle.format.specs.declared.Format.{Format}
use Rattle.route_entry.specs.declared.Route.{Route}

-- a message, and what the host tells of it: its destination, the number of the receiving interface, the TTL
pub record Arrival : Type 0 where
  pub message : List ℕ
  pub destination : ℕ
  pub receiving : ℕ
  pub ttl : ℕ

abbrev pub arrival : List ℕ → ℕ → ℕ → ℕ → Arrival
arrival message destination receiving ttl =
    record { message = message; destination = destination; receiving = receiving; ttl = ttl }

abbrev pub is_query : Header → Bool
is_query h = eqb h.kind query

abbrev pub is_request : Header → Bool
is_request h = eqb h.kind request

-- the route for a message
unfoldable pub route_for : Format → List ℕ → Header → Option Route
route_for F sheet h = which_route (routes_of F sheet) h.source h.group

-- this router is the proper last hop for its client
unfoldable pub last_hop_for : Format → List ℕ → Header → Bool
last_hop_for F sheet h = proper_last_hop (interface_of F sheet) (layout_of F sheet).interfaces (route_for F sheet h) h.client
