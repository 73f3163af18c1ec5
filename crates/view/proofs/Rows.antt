-- A law for each way out of a function: what its tests showed and what its callees answered, and the definition's answer.
use Prim.Native.Nat.{ℕ, ◌≤◌, ◌<◌}
use mathlib.Core.Bool.{Bool}
use mathlib.Core.List.{List}
use mathlib.Core.Path.{◌≡◌}
use lib.Dec.{eqb}
use lib.ListN.{length}
use borrow.Author.Tests.{eq-eqb, ne_eqb}
use Rattle.route_entry.specs.Route.{unknown}
use Rattle.interface.specs.declared.Interface.{Interface}
use Rattle.route_entry.specs.declared.Route.{Route}
use Rattle.sheet.specs.Sheet.{layout_of}
use Rattle.tables.specs.Tables.{interface_of, prohibited_of}
use Rattle.block.specs.Block.{block_size}
use Rattle.sheet.proofs.Laws.{interface_valid}
use Rattle.tables.proofs.Laws.{valid_long}
use Rattle.header.specs.declared.Header.{Header}
use Rattle.view.specs.View.{incoming_for, view_with}
use Rattle.view.specs.Inside.{RouteThere}
use Rattle.header.specs.Format.{query}
use Rattle.format.specs.declared.Format.{Format}
use Rattle.view.specs.Room.{link_of}
use Rattle.std.specs.Prelude.{Option, Some, None}

-- the link whose room counts, where the incoming interface is known
pub link_known : (incoming : Option Interface) (i here : Interface) → incoming ≡ Some i → i.mtu ≡ (link_of incoming here).mtu
link_known incoming i here e = rw e

module _ (F : Format) where
  -- the incoming interface, by the route chosen
  module _ (s : List ℕ) (chosen : Option Route) where
    module _ (r : Route) (found : chosen ≡ Some r) where
      pub incoming_unknown : r.incoming ≡ unknown → None ≡ incoming_for F s chosen
      unfolding incoming_for
      incoming_unknown e = rw (found, eq-eqb r.incoming unknown e)

      pub incoming_known : (i : Interface) → (r.incoming ≡ unknown → ⊥) → i ≡ interface_of F s r.incoming → Some i ≡ incoming_for F s chosen
      unfolding incoming_for
      incoming_known i e f = rw (found, ne_eqb r.incoming unknown e, f)

      pub incoming_there : (r.incoming ≡ unknown → ⊥) → RouteThere (layout_of F s).interfaces chosen → r.incoming < (layout_of F s).interfaces
      incoming_there e there = (rw found at there) e

    pub incoming_none : chosen ≡ None → None ≡ incoming_for F s chosen
    unfolding incoming_for
    incoming_none none = rw none

  -- a sheet with an interface is valid, and has a first block
  pub switches_here : (s : List ℕ) (receiving : ℕ) → receiving < (layout_of F s).interfaces → block_size ≤ length s
  switches_here s receiving h = valid_long F s (interface_valid F s receiving h)

  -- the view, field by field
  pub view_made : (s : List ℕ) (h : Header) (chosen : Option Route) (proper : Bool) (receiving time : ℕ) (asked : Bool) (incoming : Option Interface) (prohibited : Bool) (here : Interface)
      → asked ≡ eqb h.kind query → incoming ≡ incoming_for F s chosen → prohibited ≡ prohibited_of s → here ≡ interface_of F s receiving
      → record {
        query = asked;
        proper = proper;
        chosen = chosen;
        incoming = incoming;
        prohibited = prohibited;
        number = receiving;
        here = here;
        group = h.group;
        time = time;
      }
      ≡ view_with F s h chosen proper receiving time
  unfolding view_with
  view_made s h chosen proper receiving time asked incoming prohibited here d e f g = rw (d, e, f, g)
