-- The route of the highest rank is the route that document 01 chooses. By induction over the routes: after each of them the
-- best by rank stands for the three choices so far, by kind.
use Prim.Native.Nat.{ℕ, zero, suc, ◌+◌, ◌≤◌, ◌<◌}
use mathlib.Core.Bool.{Bool, true, false, not, ◌&&◌, ◌||◌, cond}
use mathlib.Core.List.{List, [], ◌∷◌, ◌++◌}
use mathlib.Core.Path.{◌≡◌, refl, sym, ◌∙◌}
use native.Mathlib.Omega.{arith}
use lib.Dec.{ltb, eqb}
use borrow.Author.Tests.{lt-ltb, le-ltb, eq-eqb, ne_eqb, ltb-true, ltb-false}
use Rattle.rows.proofs.Laws.{cond_cases}
use Rattle.address.specs.Addresses.{all_ones}
use Rattle.prefix.specs.Prefix.{address_bits}
use Rattle.route_entry.specs.declared.Route.{Route}
use Rattle.route.specs.declared.Best.{Best}
use Rattle.route.specs.Choice.{longer, longest_by, or_else, which_route, serves_both, serves_group, serves_source}
use Rattle.route.specs.Inside.{source_rank, group_rank, both_rank, rank_by, rank_of, best, better, best_with, as_both, as_group, as_source}
use Rattle.std.specs.Prelude.{Option, Some, None}

-- what is chosen of a list and one route more
longest_more : (test : Route → Bool) (w : Option Route) (rs : List Route) (r : Route)
    → longest_by test w (rs ++ (r ∷ [])) ≡ cond (test r && longer (longest_by test w rs) r) (Some r) (longest_by test w rs)
unfolding longest_by
longest_more test w [] r = refl
longest_more test w (q ∷ rs) r = longest_more test (cond (test q && longer w q) (Some q) w) rs r

better_up : (b : Best) (n k : ℕ) → b.rank < n → better b n k ≡ best n k
unfolding better
better_up b n k h = rw (lt-ltb b.rank n h)

pub better_same : (b : Best) (n k : ℕ) → n ≤ b.rank → better b n k ≡ b
unfolding better
better_same b n k h = rw (le-ltb b.rank n h)

module _ (at : ℕ → Route) where
  -- the best by rank is the first of three choices that there is
  abbrev Stands : Best → Option Route → Option Route → Option Route → Type 0
  Stands b (Some q) v w = (q ≡ at b.at) × (b.rank ≡ both_rank + q.length)
  Stands b None (Some q) w = (q ≡ at b.at) × (b.rank ≡ group_rank)
  Stands b None None (Some q) = (q ≡ at b.at) × (b.rank ≡ source_rank + q.length) × (q.length ≤ address_bits)
  Stands b None None None = b.rank ≡ 0

  low : (b : Best) (v w : Option Route) → Stands b None v w → b.rank < both_rank
  low b (Some q) w h = omega arith
  low b None (Some q) h = omega arith
  low b None None h = omega arith

  lower : (b : Best) (w : Option Route) → Stands b None None w → b.rank < group_rank
  lower b (Some q) h = omega arith
  lower b None h = omega arith

  module _ (b : Best) (k : ℕ) where
    -- one route more that passes a test; what is chosen by the tests behind it does not matter
    first_more : (u v w v' w' : Option Route) → Stands b u v w → Stands (better b (both_rank + (at k).length) k) (cond (longer u (at k)) (Some (at k)) u) v' w'
    unfolding longer
    first_more (Some q) v w v' w' h =
        cond_cases (λ (c : Option Route). Stands (better b (both_rank + (at k).length) k) c v' w') (ltb q.length (at k).length) _ _
        (λ e. rw (better_up b (both_rank + (at k).length) k (omega (arith, ltb-true q.length (at k).length e))) (refl, refl))
        (λ e. rw (better_same b (both_rank + (at k).length) k (omega (arith, ltb-false q.length (at k).length e))) h)
    first_more None v w v' w' h = rw (better_up b (both_rank + (at k).length) k (omega (arith, low b v w h))) (refl, refl)

    second_more : (u v w w' : Option Route) → (at k).length ≡ 0 → Stands b u v w
        → Stands (better b (group_rank + (at k).length) k) u (cond (longer v (at k)) (Some (at k)) v) w'
    unfolding longer
    second_more (Some q) v w w' z h = rw (better_same b (group_rank + (at k).length) k (omega arith)) h
    second_more None (Some q) w w' z h =
        rw (le-ltb q.length (at k).length (omega arith), better_same b (group_rank + (at k).length) k (omega arith)) h
    second_more None None w w' z h =
        rw (better_up b (group_rank + (at k).length) k (omega (arith, lower b w h))) (refl, omega arith)

    third_more : (u v w : Option Route) → (at k).length ≤ address_bits → Stands b u v w
        → Stands (better b (source_rank + (at k).length) k) u v (cond (longer w (at k)) (Some (at k)) w)
    unfolding longer
    third_more (Some q) v w z h = rw (better_same b (source_rank + (at k).length) k (omega arith)) h
    third_more None (Some q) w z h = rw (better_same b (source_rank + (at k).length) k (omega arith)) h
    third_more None None (Some q) z h =
        cond_cases (λ (c : Option Route). Stands (better b (source_rank + (at k).length) k) None None c) (ltb q.length (at k).length) _ _
        (λ e. rw (better_up b (source_rank + (at k).length) k (omega (arith, ltb-true q.length (at k).length e))) (refl, refl, z))
        (λ e. rw (better_same b (source_rank + (at k).length) k (omega (arith, ltb-false q.length (at k).length e))) h)
    third_more None None None z h = rw (better_up b (source_rank + (at k).length) k (omega arith)) (refl, refl, z)

    -- one route more, whatever tests it passes: kind 2 has length 0, and no length is over 32
    one_more : (x y z : Bool) (u v w : Option Route) → (y ≡ true → (at k).length ≡ 0) → (at k).length ≤ address_bits → Stands b u v w
        → Stands (better b (cond x (both_rank + (at k).length) (cond y (group_rank + (at k).length) (cond z (source_rank + (at k).length) 0))) k)
        (cond (x && longer u (at k)) (Some (at k)) u)
        (cond (y && longer v (at k)) (Some (at k)) v)
        (cond (z && longer w (at k)) (Some (at k)) w)
    one_more true y z u v w e l h = first_more u v w _ _ h
    one_more false true z u v w e l h = second_more u v w _ (e refl) h
    one_more false false true u v w e l h = third_more u v w l h
    one_more false false false u v w e l h = rw (better_same b 0 k (omega arith)) h

  -- the choice that the best stands for
  stands_for : (b : Best) (u v w : Option Route) → Stands b u v w → or_else u (or_else v w) ≡ cond (eqb b.rank 0) None (Some (at b.at))
  unfolding or_else
  stands_for b (Some q) v w h = rw (ne_eqb b.rank 0 (λ e. omega arith), h.0)
  stands_for b None (Some q) w h = rw (ne_eqb b.rank 0 (λ e. omega arith), h.0)
  stands_for b None None (Some q) h = rw (ne_eqb b.rank 0 (λ e. omega arith), h.0)
  stands_for b None None None h = rw (eq-eqb b.rank 0 h)

-- the first n routes, in order
abbrev pub first_routes : (ℕ → Route) → ℕ → List Route
first_routes route zero = []
first_routes route (suc n) = first_routes route n ++ (route n ∷ [])

-- the routes by their places
module _ (at : ℕ → Route) (place : ℕ → ℕ) where
  abbrev its_route : ℕ → Route
  its_route k = at (place k)

  module _ (both shared sourced : Route → Bool) where
    abbrev Right : ℕ → Type 0
    Right n = (k : ℕ) → k < n → (shared (its_route k) ≡ true → (its_route k).length ≡ 0) × ((its_route k).length ≤ address_bits)

    abbrev highest : ℕ → Best
    highest n = best_with (λ p. rank_by both shared sourced (at p)) place (best 0 0) n

    stands : (n : ℕ) → Right n
        → Stands at (highest n) (longest_by both None (first_routes its_route n)) (longest_by shared None (first_routes its_route n))
        (longest_by sourced None (first_routes its_route n))
    unfolding best_with longest_by rank_by
    stands zero h = refl
    stands (suc n) h =
        rw (
          longest_more both None (first_routes its_route n) (its_route n),
          longest_more shared None (first_routes its_route n) (its_route n),
          longest_more sourced None (first_routes its_route n) (its_route n),
        )
        (one_more at (highest n) (place n) (both (its_route n)) (shared (its_route n)) (sourced (its_route n)) _ _ _
        (h n (omega arith)).0 (h n (omega arith)).1 (stands n (λ k l. h k (omega arith))))

-- a test that nothing passes
longest_none : (w : Option Route) (rs : List Route) → longest_by (λ r. false) w rs ≡ w
unfolding longest_by
longest_none w [] = refl
longest_none w (r ∷ rs) = longest_none w rs

or_nothing : (w : Option Route) → or_else w None ≡ w
unfolding or_else
or_nothing (Some r) = refl
or_nothing None = refl

-- no source or no group shuts kinds out, as the ranks do
by_kinds : (x y : Bool) (rs : List Route) (both shared sourced : Route → Bool)
    → cond x (longest_by shared None rs) (cond y (longest_by sourced None rs) (or_else (longest_by both None rs) (or_else (longest_by shared None rs) (longest_by sourced None rs))))
    ≡ or_else (longest_by (λ r. not x && not y && both r) None rs)
    (or_else (longest_by (λ r. (x || not y) && shared r) None rs) (longest_by (λ r. not x && sourced r) None rs))
unfolding or_else
by_kinds true y rs both shared sourced = rw (longest_none None rs) (sym (or_nothing (longest_by shared None rs)))
by_kinds false true rs both shared sourced = rw (longest_none None rs)
by_kinds false false rs both shared sourced = refl

-- the route of the highest rank, the first of several, is the route that is chosen
pub chosen_by_rank : (at : ℕ → Route) (place : ℕ → ℕ) (n source group : ℕ)
    → ((k : ℕ) → k < n → (as_group source group (at (place k)) ≡ true → (at (place k)).length ≡ 0) × ((at (place k)).length ≤ address_bits))
    → let b = best_with (λ p. rank_of source group (at p)) place (best 0 0) n in
    which_route (first_routes (λ k. at (place k)) n) source group ≡ cond (eqb b.rank 0) None (Some (at b.at))
unfolding which_route
chosen_by_rank at place n source group right =
    by_kinds (all_ones source) (all_ones group) (first_routes (λ k. at (place k)) n) (serves_both source group) (serves_group group) (serves_source source)
    ∙ stands_for at (best_with (λ p. rank_of source group (at p)) place (best 0 0) n) _ _ _
    (stands at place (as_both source group) (as_group source group) (as_source source) n right)

-- what has a rank above 0 is one of the first n, by its number
pub record Numbered (place : ℕ → ℕ) (n at : ℕ) : Type 0 where
  pub number : ℕ
  pub there : number < n
  pub is : at ≡ place number

pub best_numbered : (rank place : ℕ → ℕ) (n : ℕ) → 0 < (best_with rank place (best 0 0) n).rank → Numbered place n (best_with rank place (best 0 0) n).at
unfolding best_with better
best_numbered rank place zero = λ h. absurd (omega arith)
best_numbered rank place (suc n) =
    let b : Best = best_with rank place (best 0 0) n in
    cond_cases (λ (c : Best). 0 < c.rank → Numbered place (suc n) c.at) (ltb b.rank (rank (place n))) (best (rank (place n)) (place n)) b
    (λ e h. record { number = n; there = omega arith; is = refl })
    (λ e h. let m = best_numbered rank place n h in record { number = m.number; there = omega (arith, m.there); is = m.is })
