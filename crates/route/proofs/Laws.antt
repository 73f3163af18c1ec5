-- What is known of the route that is chosen: it is one of the sheet's, and keeps the rules.
use Prim.Native.Nat.{ℕ, ◌<◌}
use mathlib.Core.List.{List}
use mathlib.Core.Path.{◌≡◌, refl, sym, ◌∙◌}
use native.Mathlib.Omega.{arith}
use lib.Dec.{eqb}
use borrow.Author.Tests.{eqb-false}
use Rattle.rows.proofs.Laws.{cond_cases}
use Rattle.format.specs.Sizes.{Sound}
use Rattle.format.specs.declared.Format.{Format}
use Rattle.route_entry.specs.Route.{route_at}
use Rattle.route_entry.specs.declared.Route.{Route}
use Rattle.route_rules.proofs.Laws.{RouteKept, route_kept}
use Rattle.sheet.specs.Sheet.{layout_of}
use Rattle.tables.specs.Tables.{route_of, routes_of}
use Rattle.tables.proofs.Laws.{route_keeps}
use Rattle.route.specs.Choice.{which_route}
use Rattle.route.specs.Inside.{best_of}
use Rattle.route.proofs.Turns.{by_rank, chosen_numbered}
use Rattle.std.specs.Prelude.{Option, Some, None}

-- a route of the sheet, by its number
record OfSheet (F : Format) (s : List ℕ) (r : Route) : Type 0 where
  number : ℕ
  there : number < (layout_of F s).routes
  is : r ≡ route_of F s number

module _ {F : Format} (sound : Sound F) (s : List ℕ) (source group : ℕ) (r : Route) (chosen : which_route (routes_of F s) source group ≡ Some r) where
  -- the chosen route is one of the sheet's
  chosen_of_sheet : OfSheet F s r
  unfolding route_of
  chosen_of_sheet =
      let b = best_of F s source group (layout_of F s).routes in
      cond_cases (λ (c : Option Route). c ≡ Some r → OfSheet F s r) (eqb b.rank 0) None (Some (route_at s b.at))
      (λ e q. let z : ◌≡◌ {A = ℕ} 0 1 = cc in absurd (omega arith))
      (λ e q.
      let n = chosen_numbered sound s source group b refl (eqb-false b.rank 0 e) in
      record { number = n.number; there = n.there; is = cc n.is })
      (sym (by_rank sound s source group) ∙ chosen)

  -- and keeps the rules on routes
  pub chosen_kept : RouteKept (layout_of F s).interfaces r
  chosen_kept = let o = chosen_of_sheet in rw o.is (route_kept _ _ (route_keeps sound s o.number o.there))
