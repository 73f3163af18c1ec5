-- Who holds an address: the lowest interface that does, and nobody only where none does.
use Prim.Native.Nat.{ℕ, zero, suc, ◌+◌, ◌≤◌, ◌<◌}
use mathlib.Core.Bool.{Bool, true, false}
use mathlib.Core.List.{List}
use mathlib.Core.Logic.{⊎_elim}
use mathlib.Core.Path.{◌≡◌, refl, sym, ap}
use native.Mathlib.Omega.{arith}
use native.Mathlib.Nat.{eq-or-lt_of_le}
use lib.Dec.{eqb}
use borrow.Author.Tests.{eqb-true, eqb-false}
use Rattle.rows.proofs.Laws.{cond_cases}
use Rattle.format.specs.declared.Format.{Format}
use Rattle.interface.specs.declared.Interface.{Interface}
use Rattle.sheet_block.specs.Every.{listed}
use Rattle.sheet.specs.Sheet.{layout_of}
use Rattle.tables.specs.Tables.{interface_of, interfaces_of, holder_from, holder_of}
use Rattle.std.proofs.iter.Yields.{nat_range_steps}
use Rattle.std.proofs.lemmas.Bool.{cases_order}
use Rattle.std.proofs.lemmas.Iterator.{first_from_Range}
use Rattle.std.specs.declared.ops.Range.{Range}
use Rattle.std.specs.Fn.{CalledAt}
use Rattle.std.specs.Iterator.{FindsItem}
use Rattle.std.specs.Prelude.{Option, Some, None, MatchOption}
use denote.Param.Members.{Mut}
use denote.Ref.{Bor}

-- of the interfaces from number i up to `end`, none holds the address
abbrev NoneHolds : (ℕ → Interface) → ℕ → ℕ → ℕ → Type 0
NoneHolds f address i end = (m : ℕ) → i ≤ m → m < end → (f m).address ≡ address → ⊥

-- what a search from number i up to `end` may find: one that holds it and none before, or none
abbrev Searched : (ℕ → Interface) → ℕ → ℕ → ℕ → Option ℕ → Type 0
Searched f address i end (Some j) = (i ≤ j) × (j < end) × ((f j).address ≡ address) × NoneHolds f address i j
Searched f address i end None = NoneHolds f address i end

module _ (f : ℕ → Interface) (address : ℕ) where
  more : (i end : ℕ) → ((f i).address ≡ address → ⊥) → NoneHolds f address (i + 1) end → NoneHolds f address i end
  more i end no' rest m l h e =
      ⊎_elim (λ (q : i ≡ m). no' (rw q e)) (λ (q : i < m). rest m (omega arith) h e) (eq-or-lt_of_le {n = i} {m = m} l)

  later : (i end : ℕ) (x : Option ℕ) → ((f i).address ≡ address → ⊥) → Searched f address (i + 1) end x → Searched f address i end x
  later i end (Some j) no' p = (omega (arith, p.0), p.1, p.2, more i j no' p.3)
  later i end None no' p = more i end no' p

  searches : (n i end : ℕ) → i + n ≡ end → Searched f address i end (holder_from address i (listed f i n))
  unfolding holder_from listed
  searches zero i end q = λ m l h e. omega arith
  searches (suc n) i end q =
      cond_cases (Searched f address i end) (eqb (f i).address address) (Some i) (holder_from address (i + 1) (listed f (i + 1) n))
      (λ e. (omega arith, omega arith, eqb-true (f i).address address e, λ m l h p. omega arith))
      (λ e. later i end (holder_from address (i + 1) (listed f (i + 1) n)) (eqb-false (f i).address address e) (searches n (i + 1) end (omega arith)))

  -- no search finds another
  once : (i end : ℕ) (x y : Option ℕ) → Searched f address i end x → Searched f address i end y → x ≡ y
  once i end None None p q = refl
  once i end None (Some k) p q = absurd (p k q.0 q.1 q.2)
  once i end (Some j) None p q = absurd (q j p.0 p.1 p.2)
  once i end (Some j) (Some k) p q =
      ⊎_elim (λ (e : j ≡ k). ap Some e)
      (λ l. absurd (⊎_elim (λ (h : j < k). q.3 j p.0 h p.2) (λ (h : k < j). p.3 k q.0 h q.2) l))
      (cases_order j k)

module _ (F : Format) (s : List ℕ) (address : ℕ) where
  searched : Searched (interface_of F s) address 0 (layout_of F s).interfaces (holder_of F s address)
  unfolding holder_of interfaces_of
  searched = searches (interface_of F s) address (layout_of F s).interfaces 0 (layout_of F s).interfaces (omega arith)

  -- who is found is an interface that holds the address, and no lower one does
  module _ (i : ℕ) (found : holder_of F s address ≡ Some i) where
    its : Searched (interface_of F s) address 0 (layout_of F s).interfaces (Some i)
    its = rw found at searched

    pub holder_there : i < (layout_of F s).interfaces
    holder_there = its.1

    pub holder_holds : (interface_of F s i).address ≡ address
    holder_holds = its.2

    pub holder_lowest : (m : ℕ) → m < i → (interface_of F s m).address ≡ address → ⊥
    holder_lowest m h = its.3 m (omega arith) h

  -- nobody is found only where none holds it
  pub nobody_holds : holder_of F s address ≡ None → (m : ℕ) → m < (layout_of F s).interfaces → (interface_of F s m).address ≡ address → ⊥
  nobody_holds none m h = (rw none at searched) m (omega arith) h

  searched_for : (n : ℕ) (x : Option ℕ)
      → MatchOption x ((k : ℕ) → 0 ≤ k → k < n → (interface_of F s k).address ≡ address → ⊥)
      (λ i. (0 ≤ i) × (i < n) × ((interface_of F s i).address ≡ address) × ((k : ℕ) → 0 ≤ k → k < i → (interface_of F s k).address ≡ address → ⊥))
      → Searched (interface_of F s) address 0 n x
  searched_for n None h = h
  searched_for n (Some i) h = h

  -- what `find` answers over the interfaces, by a closure that answers whether one holds the address and changes nothing
  pub holder_found : {C : Type 0} {g : Mut C (Bor ℕ × Unit {0}) Bool} (u : Range ℕ) (f : C) (n : ℕ) (x : Option ℕ) → n ≡ (layout_of F s).interfaces
      → FindsItem nat_range_steps g (record { start = 0; end = n }) f x u
      → ((k : ℕ) (b : Bool) (q : C) → CalledAt g f k b q → (q ≡ f) × (b ≡ eqb (interface_of F s k).address address)) → x ≡ holder_of F s address
  holder_found u f n x counted ran told =
      let found = first_from_Range (record { start = 0; end = n }) u f x (λ i. (interface_of F s i).address ≡ address) (λ i. (interface_of F s i).address ≡ address → ⊥) ran
      (λ k q h. eqb-true _ _ (sym (told k true q h).1))
      (λ k q h. ((told k false q h).0, eqb-false _ _ (sym (told k false q h).1))) in
      once (interface_of F s) address 0 _ x (holder_of F s address) (rw counted at (searched_for n x found)) searched
