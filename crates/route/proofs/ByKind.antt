-- A route that keeps the rules has its rank by its kind alone where it serves, and none where it does not.
use Prim.Native.Nat.{ℕ, ◌+◌, ◌<◌}
use mathlib.Core.Bool.{Bool, true, false, not, ◌&&◌, ◌||◌, cond}
use mathlib.Core.List.{List}
use mathlib.Core.Logic.{⊎_elim}
use mathlib.Core.Path.{◌≡◌, refl, sym, ◌∙◌}
use native.Mathlib.Omega.{arith}
use native.Mathlib.Nat.{eq-or-lt_of_le}
use lib.Dec.{eqb, leb}
use borrow.Author.Tests.{eqb-true, leb-true, ne_eqb, not-true, not-false}
use Rattle.rows.proofs.Laws.{both_of}
use Rattle.address.specs.Addresses.{first_octet, multicast, all_ones}
use Rattle.prefix.specs.Prefix.{same_prefix}
use Rattle.route_entry.specs.Route.{source_and_group, group_only, source_only, route_at}
use Rattle.route_rules.specs.Rules.{route_ok}
use Rattle.route_entry.specs.declared.Route.{Route}
use Rattle.route_rules.proofs.Laws.{RouteKept, route_kept}
use Rattle.route.specs.declared.Best.{Best}
use Rattle.route.specs.Choice.{serves_both, serves_group, serves_source}
use Rattle.route.specs.Inside.{both_rank, group_rank, source_rank, rank_by, rank_of, rank_at, of_source, serves, rank_as, better}
use Rattle.route.proofs.Ranks.{better_same}

-- no group that routes have is all ones
group_named : (group : ℕ) → multicast group ≡ true → all_ones group ≡ false
group_named group e =
    let low = leb-true (first_octet group) 239 (both_of (leb 224 (first_octet group)) (leb (first_octet group) 239) e).1 in
    ne_eqb group 4294967295 (λ q. omega arith)

-- the rank by three tests, one kind after the other: x for no source, y for no group, m for the route's group, p for its prefix
module _ (a b c : ℕ) where
  third_kind : (x y m p : Bool)
      → cond (not x && not y && (false && m && p)) a (cond ((x || not y) && (false && m)) b (cond (not x && (true && p)) c 0)) ≡ cond (not x && p) c 0
  third_kind true true m p = refl
  third_kind true false m p = refl
  third_kind false true m p = refl
  third_kind false false m p = refl

  second_kind : (x y m p : Bool) → (m ≡ true → y ≡ false)
      → cond (not x && not y && (false && m && p)) a (cond ((x || not y) && (true && m)) b (cond (not x && (false && p)) c 0)) ≡ cond (cond (not m) false true) b 0
  second_kind x y true p h = rw (h refl) (two x p) where
    two : (x p : Bool) → cond (not x && true && (false && p)) a (cond ((x || true) && true) b (cond (not x && (false && p)) c 0)) ≡ b
    two true p = refl
    two false p = refl
  second_kind true true false p h = refl
  second_kind true false false p h = refl
  second_kind false true false p h = refl
  second_kind false false false p h = refl

  first_kind : (x y m p : Bool) → (m ≡ true → y ≡ false)
      → cond (not x && not y && (true && m && p)) a (cond ((x || not y) && (false && m)) b (cond (not x && (false && p)) c 0)) ≡ cond (cond (not m) false (not x && p)) a 0
  first_kind x y true p h = rw (h refl) (two x p) where
    two : (x p : Bool) → cond (not x && true && p) a (cond ((x || true) && false) b (cond (not x && false) c 0)) ≡ cond (not x && p) a 0
    two true p = refl
    two false true = refl
    two false false = refl
  first_kind true true false p h = refl
  first_kind true false false p h = refl
  first_kind false true false p h = refl
  first_kind false false false p h = refl

module _ (source group : ℕ) (r : Route) (interfaces : ℕ) (kept : RouteKept interfaces r) where
  named : (r.kind ≡ source_only → ⊥) → eqb r.group group ≡ true → all_ones group ≡ false
  named other e = ⊎_elim (λ k. absurd (other k)) (λ m. rw (eqb-true r.group group e) at (group_named r.group m)) kept.group

  ranked : rank_of source group r ≡ cond (serves source group r) (rank_as r.kind r.length) 0
  unfolding rank_by serves_both serves_group serves_source serves of_source rank_as
  ranked =
      let a : ℕ = both_rank + r.length in
      let b : ℕ = group_rank + r.length in
      let c : ℕ = source_rank + r.length in
      let p : Bool = same_prefix r.length r.source source in
      let m : Bool = eqb r.group group in
      let x : Bool = all_ones source in
      let y : Bool = all_ones group in
      ⊎_elim (λ (e : r.kind ≡ source_only). rw e (third_kind a b c x y m p))
      (λ (l : r.kind < source_only).
      ⊎_elim (λ (e : source_and_group ≡ r.kind). rw (← e) (first_kind a b c x y m p (named (λ k. omega arith))))
      (λ (g : source_and_group < r.kind). let e : r.kind ≡ group_only = omega arith in rw e (second_kind a b c x y m p (named (λ k. omega arith))))
      (eq-or-lt_of_le {n = source_and_group} {m = r.kind} kept.kind.0))
      (eq-or-lt_of_le {n = r.kind} {m = source_only} kept.kind.1)

-- the best so far with a route that does not serve, and with one that does
module _ (s : List ℕ) (at interfaces source group : ℕ) (ok : route_ok interfaces (route_at s at) ≡ true) (x : Bool)
    (told : x ≡ serves source group (route_at s at)) (b : Best) where
  its_rank : rank_of source group (route_at s at) ≡ cond x (rank_as (route_at s at).kind (route_at s at).length) 0
  its_rank = rw told (ranked source group (route_at s at) interfaces (route_kept interfaces (route_at s at) ok))

  pub not_serving : not x ≡ true → b ≡ better b (rank_at s source group at) at
  unfolding rank_at
  not_serving e = rw (its_rank, not-true x e) (sym (better_same b 0 at (omega arith)))

  pub serving : (kind bits rank : ℕ) (b' : Best) → not x ≡ false → kind ≡ (route_at s at).kind → bits ≡ (route_at s at).length → rank ≡ rank_as kind bits
      → b' ≡ better b rank at → b' ≡ better b (rank_at s source group at) at
  unfolding rank_at
  serving kind bits rank b' e ek eb er f = f ∙ rw (its_rank, not-false x e, er, ek, eb)
