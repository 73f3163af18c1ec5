-- Tests of things numbered from 0.
use Prim.Native.Nat.{ℕ, zero, suc, ◌+◌, ◌-◌, ◌≤◌, ◌<◌}
use mathlib.Core.Bool.{Bool, true, false, not}
use mathlib.Core.Path.{◌≡◌, refl, sym, ◌∙◌}
use mathlib.Core.Logic.{⊎_elim, ◌↔◌}
use native.Mathlib.Omega.{arith}
use native.Mathlib.Numerals.{add-one}
use native.Mathlib.Nat.{eq-or-lt_of_le}
use borrow.Author.Tests.{not-true, not-false}
use Rattle.rows.proofs.Laws.{decided, both_of, both_true}
use Rattle.sheet_block.specs.Every.{every}
use Rattle.std.proofs.iter.Yields.{nat_range_steps}
use Rattle.std.proofs.lemmas.Iterator.{YieldsList-from_range}
use Rattle.std.proofs.lemmas.Iterator.Search.{all_from_yields_List}
use Rattle.std.specs.declared.ops.Range.{Range}
use Rattle.std.specs.Fn.{Called}
use Rattle.std.specs.Iterator.{ChecksAll}
use Rattle.std.specs.List.{list_all, range_with_len}
use denote.Param.Members.{Mut}

-- one more that passes
pub every-next : (test : ℕ → Bool) (x : Bool) (i : ℕ) → true ≡ every test i → x ≡ test i → not x ≡ false → true ≡ every test (i + 1)
unfolding every
every-next test x i e f h = rw (add-one, ← e, ← f, not-false x h)

-- what holds of every number holds of each
pub every_one : (test : ℕ → Bool) (n k : ℕ) → every test n ≡ true → k < n → test k ≡ true
unfolding every
every_one test zero k e h = absurd (omega arith)
every_one test (suc n) k e h =
    let p = both_of (every test n) (test n) e in
    ⊎_elim (λ q. rw q p.1) (λ l. every_one test n k p.0 l) (eq-or-lt_of_le {n = k} {m = n} (omega arith))

-- one that fails is enough
pub every_stops : (test : ℕ → Bool) (x : Bool) (n k : ℕ) → x ≡ test k → not x ≡ true → k < n → false ≡ every test n
every_stops test x n k e f h =
    ⊎_elim (λ all. cc (every_one test n k all h, not-true x f)) sym (decided (every test n))

-- and what holds of each holds of every one
pub every_each : (test : ℕ → Bool) (n : ℕ) → ((k : ℕ) → k < n → test k ≡ true) → every test n ≡ true
unfolding every
every_each test zero each = refl
every_each test (suc n) each = rw (every_each test n (λ k h. each k (omega arith)), each n (omega arith))

-- what is true where each passes, and only there, is the test of all
pub every_is : (test : ℕ → Bool) (ok : Bool) (n : ℕ) → ((ok ≡ true) ↔ ((k : ℕ) → k < n → test k ≡ true)) → ok ≡ every test n
every_is test ok n told =
    ⊎_elim (λ e. e ∙ sym (every_each test n (told.0 e)))
    (λ e. ⊎_elim (λ all. cc (told.1 (λ k h. every_one test n k all h))) (λ none. e ∙ sym none) (decided (every test n)))
    (decided ok)

-- a list of numbers passes where each of them does, and only there
listed_each : (test : ℕ → Bool) (first n : ℕ) → (list_all test (range_with_len first n) ≡ true) ↔ ((k : ℕ) → first ≤ k → k < first + n → test k ≡ true)
listed_each test first zero = (λ e k l h. absurd (omega arith), λ each. refl)
listed_each test first (suc n) =
    let later = listed_each test (first + 1) n in (
      (λ e k l h.
          let p = both_of (test first) (list_all test (range_with_len (first + 1) n)) e in
          ⊎_elim (λ (q : first ≡ k). rw (← q) p.0) (λ (q : first < k). later.0 p.1 k (omega arith) (omega arith)) (eq-or-lt_of_le {n = first} {m = k} l)),
      (λ each. both_true _ _ (each first (omega arith) (omega arith)) (later.1 (λ k l h. each k (omega arith) (omega arith)))),
    )

-- what `all` answers over some numbers, by a closure that answers the test and changes nothing: whether each passes
pub all_answered : {F : Type 0} {g : Mut F (ℕ × Unit {0}) Bool} {u : Range ℕ} {f : F} (test : ℕ → Bool) (ok : Bool) (first stop : ℕ)
    → ChecksAll nat_range_steps g (record { start = first; end = stop }) f ok u
    → ((x : ℕ) (b : Bool) (q : F) → Called g f (x, tt) b q → (q ≡ f) × (b ≡ test x)) → (ok ≡ true) ↔ ((k : ℕ) → first ≤ k → k < stop → test k ≡ true)
all_answered test ok first stop ran told =
    let e = all_from_yields_List test _ _ ok ran (YieldsList-from_range first stop (stop - first) refl refl) told in
    let each = listed_each test first (stop - first) in
    ((λ p k l h. each.0 (sym e ∙ p) k l (omega arith)), (λ h. e ∙ each.1 (λ k l m. h k l (omega arith))))
