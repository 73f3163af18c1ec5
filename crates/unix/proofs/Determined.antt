-- Two answers that meet the promise are equal.
use Prim.Native.Nat.{ℕ}
use mathlib.Core.Path.{◌≡◌, ap}
use native.Mathlib.Omega.{arith}
use Rattle.std.specs.Prelude.{Result, Ok, Err}
use Rattle.refusal.specs.declared.Refusal.{Refusal}
use Rattle.refusal.proofs.Laws.{one_number, number_positive}
use Rattle.rows.proofs.Laws.{both_are}
use Rattle.unix.specs.Unix.{Units, units_of}
use Rattle.unix.proofs.unix.Reads as unix

-- an answer is settled by what it says
one_conversion : (x y : Result ℕ Refusal) → units_of x ≡ units_of y → x ≡ y
one_conversion (Ok a) (Ok b) same = ap (λ (u : Units). Ok u.units) same
one_conversion (Ok a) (Err f) same = absurd (omega (arith, number_positive f, ap (λ (u : Units). u.number) same))
one_conversion (Err e) (Ok b) same = absurd (omega (arith, number_positive e, ap (λ (u : Units). u.number) same))
one_conversion (Err e) (Err f) same = ap Err (one_number e f (ap (λ (u : Units). u.number) same))

pub unix_determined : (κs : _) (a : _) (x y : _) (e f : _) → unix.Post κs a x e → unix.Post κs a y f → x ≡ y
unix_determined κs a x y e f p q = one_conversion x y (both_are p q)
