-- Room is the link's (document 02, M-102): it is looked for after the route is chosen, and before the steps of the answer.
use Rattle.std.specs.Prelude.{ℕ, List, Option, Some, None}
use Rattle.format.specs.declared.Format.{Format}
use Rattle.format.specs.Sizes.{room_of}
use Rattle.interface.specs.declared.Interface.{Interface}
use Rattle.tables.specs.Tables.{interface_of}
use Rattle.header.specs.Header.{header_of}
use Rattle.drops.specs.Arrival.{Arrival, route_for}
use Rattle.view.specs.View.{incoming_for}
use Rattle.route_entry.specs.declared.Route.{Route}

-- the link whose room counts: the incoming interface, or the receiving one where no route or incoming interface is known
abbrev pub link_of : Option Interface → Interface → Interface
link_of (Some i) here = i
link_of None here = here

-- the room on it, for what came in on an interface, with the route for it
unfoldable pub room_with : Format → List ℕ → Option Route → ℕ → ℕ
room_with F sheet chosen receiving = room_of F (link_of (incoming_for F sheet chosen) (interface_of F sheet receiving)).mtu

-- the same of what arrived
abbrev pub room_for : Format → Arrival → List ℕ → ℕ
room_for F a sheet = room_with F sheet (route_for F sheet (header_of a.message)) a.receiving
