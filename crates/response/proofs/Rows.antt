-- A law for each way out of a function: what its tests showed and what its callees answered, and the definition's answer.
use Prim.Native.Nat.{ℕ, ◌+◌, ◌≤◌, ◌<◌}
use mathlib.Core.Bool.{Bool, true, false, ◌||◌}
use mathlib.Core.Path.{◌≡◌, refl, sym, subst, ◌∙◌}
use native.Mathlib.Omega.{arith}
use lib.Dec.{eqb}
use Rattle.rows.proofs.Laws.{cond_cases}
use Rattle.prefix.specs.Prefix.{address_bits}
use Rattle.route_entry.specs.Route.{is_rp, group_only}
use Rattle.route_entry.specs.declared.Route.{Route}
use Rattle.forwarding.specs.declared.View.{View}
use Rattle.written.specs.declared.Filled.{Filled}
use Rattle.response.specs.Inside.{RouteFits}
use Rattle.response.specs.Fill.{no_source_mask, mask_of, s_of, s_bit, s_and_mask, filled_of, unfilled, fill_for, ends_trace}
use Rattle.response.proofs.Laws.{no_route_ends}
use Rattle.std.specs.Prelude.{Option, Some, None}

module _ (v : View) (r : Route) (found : v.chosen ≡ Some r) where
  pub ends_found : (rp : Bool) (blocks hops : ℕ) → rp ≡ is_rp r → (v.prohibited || rp || eqb r.upstream 0 || eqb blocks hops) ≡ ends_trace v blocks hops
  unfolding ends_trace
  ends_found rp blocks hops e = rw (e, found)

  pub fill_found : (f : Filled) → v.prohibited ≡ false → f ≡ filled_of r v.incoming → f ≡ fill_for v v.chosen
  fill_found f shut e = e ∙ subst (λ (w : Option Route). filled_of r v.incoming ≡ fill_for v w) (sym found) (rw shut)

  pub fits_found : RouteFits v.chosen → r.length ≤ address_bits
  fits_found fits = rw found at fits

module _ (v : View) (none : v.chosen ≡ None) where
  pub ends_none : (blocks hops : ℕ) → true ≡ ends_trace v blocks hops
  ends_none blocks hops = sym (no_route_ends v blocks hops none)

  pub fill_none : (f : Filled) → f ≡ unfilled → f ≡ fill_for v v.chosen
  fill_none f e = rw none e

shut_fill : (v : View) (w : Option Route) → v.prohibited ≡ true → unfilled ≡ fill_for v w
shut_fill v None e = refl
shut_fill v (Some r) e = rw e

pub fill_shut : (v : View) (f : Filled) → v.prohibited ≡ true → f ≡ unfilled → f ≡ fill_for v v.chosen
fill_shut v f e q = q ∙ shut_fill v v.chosen e

module _ (r : Route) (n : ℕ) (mask : n ≡ mask_of r) where
  pub s_set : s_of r ≡ true → s_bit + n ≡ s_and_mask r
  s_set e = rw (e, mask)

  pub s_clear : s_of r ≡ false → n ≡ s_and_mask r
  s_clear e = rw (e, mask)

  pub mask_fits : r.length ≤ address_bits → s_bit + n < 256
  mask_fits short =
      rw mask (cond_cases (λ (k : ℕ). s_bit + k < 256) (eqb r.kind group_only) no_source_mask r.length (λ e. omega arith) (λ e. omega arith))
