-- One pass over the routes: each turn, and what the pass comes to.
use Prim.Native.Nat.{ℕ, zero, suc, ◌+◌, ◌*◌, ◌≤◌, ◌<◌}
use mathlib.Core.Bool.{true, cond}
use mathlib.Core.List.{List, [], ◌∷◌, ◌++◌}
use mathlib.Core.Path.{◌≡◌, refl, ap, ◌∙◌}
use native.Mathlib.Omega.{arith}
use native.Mathlib.Nat.{zero-add, add-zero}
use native.Mathlib.Numerals.{add-one}
use lib.Dec.{eqb}
use lib.ListN.{length}
use borrow.Author.Tests.{eq-eqb, ne_eqb, eqb-true}
use Rattle.rows.proofs.Laws.{parts}
use Rattle.format.specs.Sizes.{Sound, route_fields}
use Rattle.format.specs.declared.Format.{Format}
use Rattle.route_entry.specs.Route.{route_at, group_only}
use Rattle.route_rules.specs.Rules.{route_ok}
use Rattle.prefix.specs.Prefix.{address_bits}
use Rattle.route_entry.specs.declared.Route.{Route}
use Rattle.route_rules.proofs.Laws.{route_kept}
use Rattle.sheet.specs.declared.Layout.{Layout}
use Rattle.sheet_block.specs.Every.{listed}
use Rattle.sheet.specs.Sheet.{layout_of}
use Rattle.tables.specs.Tables.{place_of, route_place, route_of, routes_of}
use Rattle.tables.specs.Inside.{routes_beside, Beside}
use Rattle.tables.proofs.Laws.{route_keeps, route_bytes_lem, beside_place}
use Rattle.route.specs.declared.Best.{Best}
use Rattle.route.specs.Choice.{serves_group, which_route}
use Rattle.route.specs.Inside.{as_group, rank_at, better, best_with, best_of}
use Rattle.route.proofs.Ranks.{first_routes, chosen_by_rank, Numbered, best_numbered}
use Rattle.std.specs.Prelude.{Some, None}

above : (n : ℕ) → (n ≡ 0 → ⊥) → 0 < n
above zero f = absurd (f refl)
above (suc n) f = omega arith

-- what is listed one behind the other
listed_more : (f : ℕ → Route) (i n : ℕ) → listed f i (suc n) ≡ listed f i n ++ (f (i + n) ∷ [])
unfolding listed
listed_more f i zero = let e : i ≡ i + 0 = omega arith in ap (λ (k : ℕ). f k ∷ []) e
listed_more f i (suc n) =
    let e : i + 1 + n ≡ i + suc n = omega arith in
    ap (λ (l : List Route). f i ∷ l) (listed_more f (i + 1) n ∙ ap (λ (k : ℕ). listed f (i + 1) n ++ (f k ∷ [])) e)

listed_first : (f : ℕ → Route) (n : ℕ) → listed f 0 n ≡ first_routes f n
unfolding listed
listed_first f zero = refl
listed_first f (suc n) = listed_more f 0 n ∙ rw (zero-add, listed_first f n)

-- a route that keeps the rules is short enough for a prefix
module _ (s : List ℕ) (at interfaces : ℕ) (ok : route_ok interfaces (route_at s at) ≡ true) where
  pub kept_short : (route_at s at).length ≤ address_bits
  kept_short = (route_kept _ _ ok).short

  pub read_short : (bits : ℕ) → bits ≡ (route_at s at).length → bits ≤ address_bits
  read_short bits e = rw e kept_short

-- one turn over routes that stand side by side
module _ {F : Format} (s : List ℕ) (at count : ℕ) (beside : Beside F s at count) where
  pub beside_within : Sound F → (j : ℕ) → j < count → at + F.route * j + route_fields ≤ length s
  beside_within sound j h = omega (arith, beside.bytes j h)

  pub beside_kept : (j : ℕ) → j < count → route_ok (layout_of F s).interfaces (route_at s (at + F.route * j)) ≡ true
  beside_kept j h = beside.kept j h

-- before the first turn, and with one more
module _ (rank place : ℕ → ℕ) (before : Best) where
  pub best-start : before ≡ best_with rank place before 0
  unfolding best_with
  best-start = refl

  pub best_more : (b b' : Best) (j : ℕ) → b ≡ best_with rank place before j → b' ≡ better b (rank (place j)) (place j)
      → b' ≡ best_with rank place before (j + 1)
  unfolding best_with
  best_more b b' j e f = f ∙ rw (add-one, ← e)

-- a block of routes more: they stand side by side
module _ {F : Format} (sound : Sound F) (s : List ℕ) (l : Layout) (k : ℕ) (layout : l ≡ layout_of F s) (there : k < l.routes) (at count : ℕ)
    (placed : at ≡ place_of F.route l.blocks k) (beside : count ≡ routes_beside F l.routes k) (source group : ℕ) where
  some_more : (n : ℕ) → n ≤ count → best_with (rank_at s source group) (λ j. at + F.route * j) (best_of F s source group k) n ≡ best_of F s source group (k + n)
  unfolding best_with
  some_more zero h = rw add-zero
  some_more (suc n) h =
      let e : k + suc n ≡ suc (k + n) = omega arith in
      rw (e, some_more n (omega arith), beside_place sound s l k layout there at count placed beside n (omega arith))

  pub block_more : (b b' : Best) → b ≡ best_of F s source group k → b' ≡ best_with (rank_at s source group) (λ j. at + F.route * j) b count
      → b' ≡ best_of F s source group (k + count)
  block_more b b' e f = f ∙ rw e (some_more count (omega arith))

module _ (F : Format) (s : List ℕ) (l : Layout) (layout : l ≡ layout_of F s) (source group : ℕ) where
  pub best_all : (b : Best) (k : ℕ) → b ≡ best_of F s source group k → k ≤ l.routes → l.routes ≤ k
      → b ≡ best_of F s source group (layout_of F s).routes
  best_all b k e h g = let q : k ≡ l.routes = omega arith in e ∙ rw (q, layout)

module _ {F : Format} (sound : Sound F) (s : List ℕ) (source group : ℕ) where
  -- the route that was found is one of the sheet's
  pub chosen_numbered : (b : Best) → b ≡ best_of F s source group (layout_of F s).routes → (b.rank ≡ 0 → ⊥)
      → Numbered (route_place F s) (layout_of F s).routes b.at
  chosen_numbered b e some =
      rw e (best_numbered (rank_at s source group) (route_place F s) (layout_of F s).routes (rw e at (above b.rank some)))

  pub chosen_there : (b : Best) → b ≡ best_of F s source group (layout_of F s).routes → (b.rank ≡ 0 → ⊥) → b.at + route_fields ≤ length s
  chosen_there b e some = let n = chosen_numbered b e some in rw n.is (omega (arith, route_bytes_lem sound s n.number n.there))

  right_routes : (k : ℕ) → k < (layout_of F s).routes
      → (as_group source group (route_of F s k) ≡ true → (route_of F s k).length ≡ 0) × ((route_of F s k).length ≤ address_bits)
  unfolding serves_group
  right_routes k h =
      let kept = route_kept _ _ (route_keeps sound s k h) in
      (λ e. kept.whole (eqb-true (route_of F s k).kind group_only (search parts depth 8)), kept.short)

  pub by_rank : let b = best_of F s source group (layout_of F s).routes in
      which_route (routes_of F s) source group ≡ cond (eqb b.rank 0) None (Some (route_at s b.at))
  unfolding routes_of route_of rank_at
  by_rank =
      rw (listed_first (route_of F s) (layout_of F s).routes)
      (chosen_by_rank (route_at s) (route_place F s) (layout_of F s).routes source group right_routes)

  pub chosen_none : (b : Best) → b ≡ best_of F s source group (layout_of F s).routes → b.rank ≡ 0
      → None ≡ which_route (routes_of F s) source group
  chosen_none b e z = rw (by_rank, ← e, eq-eqb b.rank 0 z)

  pub chosen_some : (b : Best) (r : Route) → b ≡ best_of F s source group (layout_of F s).routes → (b.rank ≡ 0 → ⊥)
      → r ≡ route_at s b.at → Some r ≡ which_route (routes_of F s) source group
  chosen_some b r e z f = rw (by_rank, ← e, ne_eqb b.rank 0 z, f)
