-- The recent list as it is left.
use Prim.Native.Nat.{ℕ}
use mathlib.Core.List.{List}
use mathlib.Core.Path.{◌≡◌}
use borrow.Author.Tests.{eq-eqb, ne_eqb}
use Rattle.recent.specs.Entries.{entered_in}
use Rattle.header.specs.declared.Header.{Header}
use Rattle.header.specs.Format.{query}
use Rattle.engine.specs.Step.{recent_after}

-- a Query is entered, anything else is not
pub query_entered : (h : Header) (r r1 : List ℕ) → h.kind ≡ query → r1 ≡ entered_in r h.client h.id → r1 ≡ recent_after h r
unfolding recent_after
query_entered h r r1 q e = rw (eq-eqb h.kind query q) e

pub request_kept : (h : Header) (r : List ℕ) → (h.kind ≡ query → ⊥) → r ≡ recent_after h r
unfolding recent_after
request_kept h r q = rw (ne_eqb h.kind query q)
