-- A law for each way out of a function: what its tests showed and what its callees answered, and the definition's answer.
use Prim.Native.Nat.{ℕ}
use mathlib.Core.Bool.{Bool, true, false}
use mathlib.Core.Path.{◌≡◌, sym, ap, ◌∙◌}
use Rattle.route_entry.specs.declared.Route.{Route}
use Rattle.forwarding.specs.declared.View.{View}
use Rattle.rows.specs.Rows.{by_first, first_of}
use Rattle.forwarding.specs.Code.{code_wrong_last_hop, code_no_route, wrong_last_hop, scoped, codes_for, codes, code_of}
use Rattle.forwarding.specs.Inside.{late_codes}
use Rattle.forwarding.proofs.Laws.{hidden_no_route}
use Rattle.std.specs.Prelude.{Option, Some, None}

-- the codes from SCOPED on, by what `in_scope` answered
pub late_told : (v : View) (r : Route) (inScope : Bool) (code : ℕ) → inScope ≡ scoped v → code ≡ first_of (late_codes inScope r v.number)
    → code ≡ first_of (late_codes (scoped v) r v.number)
late_told v r inScope code e h = rw (← e) h

pub code_found : (v : View) (r : Route) → v.chosen ≡ Some r → (code : ℕ) → code ≡ first_of (codes_for v (Some r)) → code ≡ code_of v
unfolding codes
code_found v r found code e = e ∙ ap (λ (w : Option Route). first_of (codes_for v w)) (sym found)

-- no route: WRONG_LAST_HOP, or else NO_ROUTE
module _ (v : View) (none : v.chosen ≡ None) where
  pub code_none_wrong : wrong_last_hop v ≡ true → code_wrong_last_hop ≡ code_of v
  code_none_wrong e = sym (hidden_no_route v none e)

  pub code_none : wrong_last_hop v ≡ false → code_no_route ≡ code_of v
  unfolding codes by_first
  code_none e = rw (none, e)
