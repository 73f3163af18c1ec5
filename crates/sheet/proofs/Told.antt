-- What the check tells of a sheet: the counts of a valid one, and none of any other.
use Prim.Native.Nat.{ℕ, ◌≤◌, ◌<◌}
use mathlib.Core.Bool.{true, false}
use mathlib.Core.List.{List}
use mathlib.Core.Path.{◌≡◌, refl, sym}
use native.Mathlib.Omega.{arith}
use Rattle.rows.proofs.Laws.{cond_cases}
use Rattle.format.specs.declared.Format.{Format}
use Rattle.interface.specs.Interface.{most_interfaces}
use Rattle.sheet.specs.Sheet.{valid_sheet, no_layout, counted, layout_of, told_of}
use Rattle.sheet.specs.declared.Layout.{Layout}
use Rattle.sheet.proofs.Valid.{valid}
use Rattle.std.specs.Prelude.{Option, Some, None, is_some}
use Rattle.std.specs.Option.{unwrap_or}

-- what holds of the counts of a valid sheet, and of no counts for any other, holds of the layout
pub layout_cases : (F : Format) (P : Layout → Type 0) (s : List ℕ) → (valid_sheet F s ≡ true → P (counted F s)) → (valid_sheet F s ≡ false → P no_layout) → P (layout_of F s)
unfolding layout_of
layout_cases F P s = cond_cases P (valid_sheet F s) (counted F s) no_layout

pub layout_valid : (F : Format) (s : List ℕ) → valid_sheet F s ≡ true → layout_of F s ≡ counted F s
unfolding layout_of
layout_valid F s e = rw e

-- what the check answers: the layout of a valid sheet, and nothing of any other
pub told_cases : (F : Format) (P : Option Layout → Type 0) (s : List ℕ) → (valid_sheet F s ≡ true → P (Some (layout_of F s))) → (valid_sheet F s ≡ false → P None) → P (told_of F s)
unfolding told_of layout_of
told_cases F P s some none = cond_cases P (valid_sheet F s) (Some (counted F s)) None (λ e. rw e at (some e)) none

pub valid_told : (F : Format) (s : List ℕ) → is_some (told_of F s) ≡ valid_sheet F s
valid_told F s = told_cases F (λ (o : Option Layout). is_some o ≡ valid_sheet F s) s sym sym

pub told_some : (F : Format) (s : List ℕ) (l : Layout) → told_of F s ≡ Some l → (valid_sheet F s ≡ true) × (l ≡ layout_of F s)
told_some F s l = told_cases F (λ (o : Option Layout). o ≡ Some l → (valid_sheet F s ≡ true) × (l ≡ layout_of F s)) s (λ e q. (e, cc)) (λ e q. cc)

pub told_none : (F : Format) (s : List ℕ) → told_of F s ≡ None → valid_sheet F s ≡ false
told_none F s = told_cases F (λ (o : Option Layout). o ≡ None → valid_sheet F s ≡ false) s (λ e q. cc) (λ e q. e)

-- the layout of any sheet is what the check answers, with no counts in place of nothing
pub told_layout : (F : Format) (s : List ℕ) → layout_of F s ≡ unwrap_or (told_of F s) no_layout
told_layout F s =
    told_cases F (λ (o : Option Layout). layout_of F s ≡ unwrap_or o no_layout) s (λ e. refl)
    (λ e. layout_cases F (λ (l : Layout). l ≡ no_layout) s (λ t. cc) (λ t. refl))

-- where something is counted the sheet is valid
counts_valid : (F : Format) (s : List ℕ) (count : Layout → ℕ) (i : ℕ) → count no_layout ≡ 0 → i < count (layout_of F s) → valid_sheet F s ≡ true
counts_valid F s count i none = layout_cases F (λ (l : Layout). i < count l → valid_sheet F s ≡ true) s (λ e h. e) (λ e h. absurd (omega arith))

pub interface_valid : (F : Format) (s : List ℕ) (i : ℕ) → i < (layout_of F s).interfaces → valid_sheet F s ≡ true
interface_valid F s i = counts_valid F s (λ (l : Layout). l.interfaces) i refl

pub route_valid : (F : Format) (s : List ℕ) (k : ℕ) → k < (layout_of F s).routes → valid_sheet F s ≡ true
route_valid F s k = counts_valid F s (λ (l : Layout). l.routes) k refl

-- at most 64 interfaces
pub interfaces_few : (F : Format) (s : List ℕ) → (layout_of F s).interfaces ≤ most_interfaces
unfolding counted
interfaces_few F s = layout_cases F (λ (l : Layout). l.interfaces ≤ most_interfaces) s (λ e. (valid F s e).few) (λ e. omega arith)

pub interface_few : (F : Format) (s : List ℕ) (i : ℕ) → i < (layout_of F s).interfaces → i < most_interfaces
interface_few F s i there = omega (arith, interfaces_few F s)
