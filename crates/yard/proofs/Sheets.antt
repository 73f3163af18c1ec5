-- Laws of a yard: its sheets are checked one by one, and the routers are asked in their order who holds an address.
use Prim.Native.Nat.{ℕ, suc, ◌+◌, ◌*◌, ◌-◌, ◌/◌, ◌≤◌, ◌<◌}
use mathlib.Core.Bool.{Bool, true, false, not}
use mathlib.Core.List.{List}
use mathlib.Core.Logic.{⊎_elim}
use mathlib.Core.Path.{◌≡◌, refl, sym, ap, ◌∙◌}
use native.Mathlib.Omega.{arith}
use native.Mathlib.Nat.{add-sub_cancel_left, eq-or-lt_of_le}
use borrow.Author.Tests.{not-true, not-false}
use lib.ListN.{length, take, drop, get_or, set, length-set}
use lib.Seq.{get_or-set_same, get_or-set_other}
use Rattle.wire.proofs.Laws.{Wholes, wholes}
use Rattle.rows.proofs.Laws.{both_of}
use Rattle.sheet_block.proofs.Laws.{every-next, every_stops}
use Rattle.sheet_block.specs.Every.{every}
use Rattle.sheet.specs.Sheet.{layout_of, told_of}
use Rattle.sheet.proofs.Laws.{told_some, told_none}
use Rattle.tables.specs.Tables.{holder_of}
use Rattle.sheet.specs.declared.Layout.{Layout}
use Rattle.yard.specs.Inside.{Counted, YardChecked}
use Rattle.yard.specs.Yard.{sheet_size, most_routers, routers_in, sheet_at, valid_at, yard_size_ok, yard_ok, held_by, lowest_from, holder_in}
use Rattle.format.specs.declared.Format.{Format}
use Rattle.std.specs.Prelude.{Option, Some, None}

-- the part of a yard that is lent for router i
pub lent_sheet : (yard : List ℕ) (i : ℕ) → take (sheet_size * i + sheet_size - sheet_size * i) (drop (sheet_size * i) yard) ≡ sheet_at yard i
unfolding sheet_at
lent_sheet yard i = rw add-sub_cancel_left

-- the sheets of a yard whose size is right
module _ (yard : List ℕ) (size : Bool) (told : size ≡ yard_size_ok (length yard)) (right : not size ≡ false) where
  yard_sized : Wholes sheet_size most_routers (length yard)
  yard_sized = wholes sheet_size most_routers (length yard) (sym told ∙ not-false size right)

  pub sheets_few : length yard / sheet_size ≤ most_routers
  sheets_few = yard_sized.few

  pub sheets_counted : (counts : List ℕ) → most_routers ≤ length counts → length yard / sheet_size ≤ length counts
  sheets_counted counts h = omega (arith, yard_sized.few)

module _ (F : Format) where
  -- one sheet more is checked, and its interfaces are counted
  module _ (yard : List ℕ) (i : ℕ) (o : Option Layout) (told : o ≡ told_of F (take (sheet_size * i + sheet_size - sheet_size * i) (drop (sheet_size * i) yard))) where
    told_is : o ≡ told_of F (sheet_at yard i)
    told_is = told ∙ rw (lent_sheet yard i)

    pub checked_wrong : (n : ℕ) → i < n → o ≡ None → false ≡ every (valid_at F yard) n
    checked_wrong n h e = every_stops (valid_at F yard) false n i (sym (told_none F (sheet_at yard i) (sym told_is ∙ e))) refl h

    pub checked_more : (l : Layout) → true ≡ every (valid_at F yard) i → o ≡ Some l → true ≡ every (valid_at F yard) (i + 1)
    checked_more l e some = every-next (valid_at F yard) true i e (sym (told_some F (sheet_at yard i) l (sym told_is ∙ some)).0) refl

    pub counted_more : (l : Layout) (counts first : List ℕ) (n : ℕ) → o ≡ Some l → i < n → n ≤ length first → length counts ≡ length first
        → Counted F yard counts i → Counted F yard (set counts i l.interfaces) (i + 1)
    counted_more l counts first n some more room same c =
        let layout_is : l ≡ layout_of F (sheet_at yard i) = (told_some F (sheet_at yard i) l (sym told_is ∙ some)).1 in
        let there : i < length counts = omega arith in
        record {
          long = simp length-set (omega arith);
          each =
              λ k h.
              ⊎_elim
              (λ e.
              ap (λ (n : ℕ). get_or (set counts i l.interfaces) n 0) e
              ∙ get_or-set_same counts i l.interfaces 0 there
              ∙ ap (λ (x : Layout). x.interfaces) layout_is
              ∙ ap (λ (n : ℕ). (layout_of F (sheet_at yard n)).interfaces) (sym e))
              (λ low. get_or-set_other counts i k l.interfaces 0 (λ e. omega arith) ∙ c.each k low)
              (eq-or-lt_of_le {n = k} {m = i} (omega arith));
        }

  pub counted_none : (yard counts : List ℕ) → Counted F yard counts 0
  counted_none yard counts = record { long = omega arith; each = λ k h. absurd (omega arith) }

  module _ (yard : List ℕ) (n i : ℕ) (low : i ≤ n) (high : n ≤ i) where
    all_of : i ≡ n
    all_of = omega arith

    pub checked_all : true ≡ every (valid_at F yard) i → true ≡ every (valid_at F yard) n
    checked_all e = e ∙ ap (every (valid_at F yard)) all_of

    pub counted_all : (counts : List ℕ) → Counted F yard counts i → Counted F yard counts n
    counted_all counts c = rw all_of at c

  -- a yard is checked: its size, and its sheets
  module _ (yard : List ℕ) (size : Bool) (told : size ≡ yard_size_ok (length yard)) where
    pub wrong_size_lem : (counts : List ℕ) → not size ≡ true → YardChecked F yard false counts
    unfolding yard_ok
    wrong_size_lem counts e = record { is = rw (← told, not-true size e); counted = λ z. let y : ◌≡◌ {A = ℕ} 0 1 = cc in absurd (omega arith) }

    pub yard_checked : not size ≡ false → (ok : Bool) (counts : List ℕ)
        → (ok ≡ every (valid_at F yard) (length yard / sheet_size)) × (ok ≡ true → Counted F yard counts (length yard / sheet_size)) → YardChecked F yard ok counts
    unfolding yard_ok
    yard_checked right ok counts e = record { is = rw (← told, not-false size right) e.0; counted = e.1 }

  -- a yard that is right: its sizes, and each of its sheets
  pub yard_right : (yard : List ℕ) → yard_ok F yard ≡ true → Wholes sheet_size most_routers (length yard)
  unfolding yard_ok
  yard_right yard e = wholes sheet_size most_routers (length yard) (both_of (yard_size_ok (length yard)) _ e).0

  -- the count of a router that is asked
  pub count-told : (yard counts : List ℕ) (n i : ℕ) → Counted F yard counts n → i < n
      → get_or counts i 0 ≡ (layout_of F (take (sheet_size * i + sheet_size - sheet_size * i) (drop (sheet_size * i) yard))).interfaces
  count-told yard counts n i c h = c.each i h ∙ rw (lent_sheet yard i)

  -- the whole search is the search from router i on
  module _ (yard : List ℕ) (address n : ℕ) where
    pub search_start : n ≡ routers_in yard → holder_in F yard address ≡ lowest_from F yard address 0 (n - 0)
    unfolding holder_in
    search_start e = let z : n - 0 ≡ routers_in yard = omega arith in rw z

    module _ (i : ℕ) (so_far : holder_in F yard address ≡ lowest_from F yard address i (n - i)) where
      step : i < n → holder_in F yard address ≡ held_by i (holder_of F (sheet_at yard i) address) (lowest_from F yard address (i + 1) (n - (i + 1)))
      unfolding lowest_from
      step h = let e : n - i ≡ suc (n - (i + 1)) = omega arith in so_far ∙ rw e

      module _ (found : Option ℕ) (told : found ≡ holder_of F (take (sheet_size * i + sheet_size - sheet_size * i) (drop (sheet_size * i) yard)) address) (here : i < n) where
        asked : holder_of F (sheet_at yard i) address ≡ found
        asked = sym (told ∙ rw (lent_sheet yard i))

        pub search_found : (k : ℕ) → found ≡ Some k → Some (i, k) ≡ holder_in F yard address
        search_found k e = rw (step here, asked, e)

        pub search_on : found ≡ None → holder_in F yard address ≡ lowest_from F yard address (i + 1) (n - (i + 1))
        search_on e = step here ∙ rw (asked, e)

      pub search_none : n ≤ i → None ≡ holder_in F yard address
      unfolding lowest_from
      search_none h = let e : n - i ≡ 0 = omega arith in rw (so_far, e)
