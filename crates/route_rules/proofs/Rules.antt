-- The rules on a route in the groups in which the code looks at them.
use mathlib.Core.Bool.{Bool, true, false, ◌&&◌, and-true, and-false, and_assoc}
use mathlib.Core.Path.{◌≡◌}
use Prim.Native.Nat.{ℕ}
use lib.Dec.{eqb}
use Rattle.route_entry.specs.declared.Route.{Route}
use Rattle.prefix.specs.Prefix.{zero_past}
use Rattle.route_rules.specs.Rules.{kind_ok, length_ok, flags_ok, group_ok, incoming_ok, upstream_ok, map_ok, route_ok}
use Rattle.route_rules.specs.Inside.{fits_kind, zeros_ok, upward_ok, maps_ok}

-- the groups together are all the rules: the group's alone is looked at before its turn
reordered : (k l f z y p g u i a b c : Bool) → (k && l && f && z && y && p && g && u && i && a && b && c)
    ≡ (k && (l && f && g) && (z && y && p) && (u && i) && (a && b && c))
reordered k l f z y p true u i a b c = simp (and_assoc, and-true)
reordered k l f z y p false u i a b c = simp (and_assoc, and-false)

pub grouped : (n : ℕ) (r : Route) → route_ok n r ≡ (kind_ok r.kind && fits_kind r.kind r.length r.flags r.group && zeros_ok r && upward_ok n r && maps_ok n r)
unfolding route_ok
grouped n r =
    reordered (kind_ok r.kind) (length_ok r.kind r.length) (flags_ok r.kind r.flags) (eqb r.zero 0) (eqb r.zeros 0)
    (zero_past r.length r.source)
    (group_ok r.kind r.group)
    (upstream_ok r.incoming r.upstream)
    (incoming_ok n r.incoming)
    (map_ok n r.forward)
    (map_ok n r.pruned)
    (map_ok n r.stopped)
