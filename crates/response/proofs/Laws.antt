-- The law that other crates cite: no route ends a trace.
use Prim.Native.Nat.{ℕ}
use mathlib.Core.Bool.{true}
use mathlib.Core.Path.{◌≡◌}
use Rattle.forwarding.specs.declared.View.{View}
use Rattle.response.specs.Fill.{ends_trace}
use Rattle.std.specs.Prelude.{None}

-- no route ends the trace, whatever code is shown
pub no_route_ends : (v : View) (used hops : ℕ) → v.chosen ≡ None → ends_trace v used hops ≡ true
unfolding ends_trace
no_route_ends v used hops none = rw none
