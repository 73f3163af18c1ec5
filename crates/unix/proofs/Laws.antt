-- The law that other crates cite.
use Prim.Native.Nat.{ℕ}
use mathlib.Core.Path.{◌≡◌, refl}
use native.Mathlib.Omega.{arith}
use lib.Dec.{eqb}
use borrow.Author.Tests.{eqb-true}
use Rattle.rows.proofs.Laws.{by_rows, first_passes}
use Rattle.unix.specs.Unix.{Units, clock_unix, units_for, unix_rows, converted, refused_units, unix_of}

-- a UNIX time comes to 0 units exactly where it is refused
pub unix_zero : (s n : ℕ) → ((unix_of s n).number ≡ clock_unix → (unix_of s n).units ≡ 0) × ((unix_of s n).units ≡ 0 → (unix_of s n).number ≡ clock_unix)
unfolding unix_of
unix_zero s n =
    by_rows refused_units (converted (units_for s n))
    (λ (u : Units). (u.number ≡ clock_unix → u.units ≡ 0) × (u.units ≡ 0 → u.number ≡ clock_unix)) (unix_rows s n)
    (λ k f. (λ e. refl, λ z. eqb-true k clock_unix (first_passes (λ m. eqb m clock_unix) (unix_rows s n) k refl f)))
    (λ none. (λ e. absurd (omega arith), λ z. absurd (omega arith)))
