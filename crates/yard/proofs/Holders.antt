-- Who holds an address in a yard: the lowest router with an interface that has it, and there the lowest such interface; nobody
-- exactly where no router has one.
use Prim.Native.Nat.{ℕ, zero, suc, ◌+◌, ◌≤◌, ◌<◌}
use mathlib.Core.List.{List}
use mathlib.Core.Logic.{◌⊎◌, inl, inr, ⊎_elim}
use mathlib.Core.Path.{◌≡◌, refl}
use native.Mathlib.Omega.{arith}
use native.Mathlib.Nat.{eq-or-lt_of_le}
use borrow.Author.Tests.{ltb-true, ltb-false}
use lib.Dec.{ltb}
use Rattle.rows.proofs.Laws.{decided}
use Rattle.interface.specs.Interface.{most_interfaces}
use Rattle.tables.specs.Tables.{holder_of}
use Rattle.sheet.proofs.Laws.{interfaces_few}
use Rattle.tables.proofs.Laws.{holder_there, holder_holds, holder_lowest, nobody_holds}
use Rattle.yard.specs.Yard.{routers_in, sheet_at, held_by, lowest_from, holder_in}
use Rattle.yard.specs.Holders.{LowestHolder, NobodyHolds}
use Rattle.yard.specs.Faithful.{HolderIs}
use Rattle.format.specs.declared.Format.{Format}
use Rattle.std.specs.Prelude.{Option, Some, None}

-- who is found is a router of the yard, and one of its few interfaces
pub record Holds (F : Format) (yard : List ℕ) (address i k : ℕ) : Type 0 where
  pub there : i < routers_in yard
  pub few : k < most_interfaces
  pub holds : holder_of F (sheet_at yard i) address ≡ Some k

-- somebody holds an address
pub record Somebody (F : Format) (yard : List ℕ) (address : ℕ) : Type 0 where
  pub router : ℕ
  pub interface : ℕ
  pub holds : LowestHolder F yard address router interface

-- what is not lower is at least as high
at_least : (i j : ℕ) → (i < j → ⊥) → j ≤ i
at_least i j h = ⊎_elim (λ t. absurd (h (ltb-true i j t))) (λ f. ltb-false i j f) (decided (ltb i j))

module _ (F : Format) where
  module _ (yard : List ℕ) (address : ℕ) where
    -- none of the routers from number `from` up to `end` holds it
    abbrev NoneFrom : ℕ → ℕ → Type 0
    NoneFrom from end = (i : ℕ) → from ≤ i → i < end → holder_of F (sheet_at yard i) address ≡ None

    -- what a search of those routers may find
    abbrev Searched : ℕ → ℕ → Option (ℕ × ℕ) → Type 0
    Searched from end (Some (i, k)) = (from ≤ i) × (i < end) × (holder_of F (sheet_at yard i) address ≡ Some k) × NoneFrom from i
    Searched from end None = NoneFrom from end

    none_more : (from end : ℕ) → holder_of F (sheet_at yard from) address ≡ None → NoneFrom (from + 1) end → NoneFrom from end
    none_more from end none later i low h =
        ⊎_elim (λ (e : from ≡ i). rw (← e) none) (λ (l : from < i). later i (omega arith) h) (eq-or-lt_of_le {n = from} {m = i} low)

    searched_more : (from end : ℕ) (h : Option (ℕ × ℕ)) → holder_of F (sheet_at yard from) address ≡ None → Searched (from + 1) end h → Searched from end h
    searched_more from end (Some (i, k)) none p = (omega (arith, p.0), p.1, p.2, none_more from i none p.3)
    searched_more from end None none p = none_more from end none p

    searched : (n from end : ℕ) → from + n ≡ end → Searched from end (lowest_from F yard address from n)
    unfolding lowest_from
    searched zero from end e = λ i low h. absurd (omega arith)
    searched (suc n) from end e = by_answer (holder_of F (sheet_at yard from) address) refl (searched n (from + 1) end (omega arith)) where
      by_answer : (f : Option ℕ) → holder_of F (sheet_at yard from) address ≡ f → Searched (from + 1) end (lowest_from F yard address (from + 1) n)
          → Searched from end (held_by from f (lowest_from F yard address (from + 1) n))
      by_answer (Some k) q later = (omega arith, omega arith, q, λ i low h. absurd (omega arith))
      by_answer None q later = searched_more from end (lowest_from F yard address (from + 1) n) q later

    searched_all : Searched 0 (routers_in yard) (holder_in F yard address)
    unfolding holder_in
    searched_all = searched (routers_in yard) 0 (routers_in yard) (omega arith)

    pub holder_found : (i k : ℕ) → holder_in F yard address ≡ Some (i, k) → Holds F yard address i k
    holder_found i k e =
        let p = rw e at searched_all in
        record {
          there = p.1;
          few = omega (arith, holder_there F (sheet_at yard i) address k p.2, interfaces_few F (sheet_at yard i));
          holds = p.2;
        }

    searched_is : (h : Option (ℕ × ℕ)) → Searched 0 (routers_in yard) h → HolderIs F yard address h
    searched_is (Some (i, k)) p =
        record {
          there = p.1;
          here = holder_there F (sheet_at yard i) address k p.2;
          holds = holder_holds F (sheet_at yard i) address k p.2;
          lowest_here = holder_lowest F (sheet_at yard i) address k p.2;
          lowest = λ j l. nobody_holds F (sheet_at yard j) address (p.3 j (omega arith) l);
        }
    searched_is None p = λ i h. nobody_holds F (sheet_at yard i) address (p i (omega arith) h)

    -- the lowest router and its lowest interface, or nobody
    pub holder_is : HolderIs F yard address (holder_in F yard address)
    holder_is = searched_is (holder_in F yard address) searched_all

    same_interface : (i j k l : ℕ) → i ≡ j → LowestHolder F yard address i k → LowestHolder F yard address j l → ◌≡◌ {A = Option (ℕ × ℕ)} (Some (i, k)) (Some (j, l))
    same_interface i j k l e p q =
        let r : LowestHolder F yard address i l = rw e q in
        let low : l ≤ k = at_least k l (λ h. r.lowest_here k h p.holds) in
        let high : k ≤ l = at_least l k (λ h. p.lowest_here l h r.holds) in
        let f : k ≡ l = omega arith in
        rw (e, f)

    one_holder : (g h : Option (ℕ × ℕ)) → HolderIs F yard address g → HolderIs F yard address h → g ≡ h
    one_holder (Some (i, k)) (Some (j, l)) p q =
        let low : j ≤ i = at_least i j (λ h. q.lowest i h k p.here p.holds) in
        let high : i ≤ j = at_least j i (λ h. p.lowest j h l q.here q.holds) in
        same_interface i j k l (omega arith) p q
    one_holder (Some (i, k)) None p q = absurd (q i p.there k p.here p.holds)
    one_holder None (Some (j, l)) p q = absurd (p j q.there l q.here q.holds)
    one_holder None None p q = refl

    -- and nothing else is
    pub holder_unique : (h : Option (ℕ × ℕ)) → HolderIs F yard address h → h ≡ holder_in F yard address
    holder_unique h p = one_holder h (holder_in F yard address) p holder_is

    by_holder : (h : Option (ℕ × ℕ)) → HolderIs F yard address h → NobodyHolds F yard address ⊎ Somebody F yard address
    by_holder (Some (i, k)) p = inr (record { router = i; interface = k; holds = p })
    by_holder None p = inl p

    pub nobody_or_somebody : NobodyHolds F yard address ⊎ Somebody F yard address
    nobody_or_somebody = by_holder (holder_in F yard address) holder_is
