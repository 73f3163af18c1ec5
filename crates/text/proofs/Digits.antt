-- A number by its digits: none, one, or those before the last and that one.
use Prim.Native.Nat.{ℕ, zero, suc, ◌+◌, ◌-◌, ◌/◌, ◌%◌, ◌≤◌, ◌<◌}
use mathlib.Core.Path.{◌≡◌, refl}
use mathlib.Core.List.{List, [], ◌∷◌, ◌++◌, append-nil}
use native.Mathlib.Omega.{arith}
use borrow.Author.Tests.{lt-ltb, le-ltb}
use Rattle.text.specs.Text.{zero_digit, decimal}

pub no_digits : (text : List ℕ) (digits n : ℕ) → digits ≡ 0 → text ≡ text ++ decimal digits n
unfolding decimal
no_digits text digits n e = rw (e, append-nil) refl

pub one_digit : (digits n : ℕ) → (digits ≡ 0 → ⊥) → n < 10 → decimal digits n ≡ (zero_digit + n % 10) ∷ []
unfolding decimal
one_digit zero n some small = absurd (some refl)
one_digit (suc digits) n some small =
    let same : n % 10 ≡ n = omega arith in
    rw (lt-ltb n 10 small, same) refl

pub more_digits : (digits n : ℕ) → (digits ≡ 0 → ⊥) → 10 ≤ n
    → decimal digits n ≡ decimal (digits - 1) (n / 10) ++ (zero_digit + n % 10) ∷ []
unfolding decimal
more_digits zero n some large = absurd (some refl)
more_digits (suc digits) n some large =
    let before : suc digits - 1 ≡ digits = omega arith in
    rw (le-ltb n 10 large, before) refl
