-- The time issued for a reading, by how far it rose: by more than twice the lead, or by less.
use Prim.Native.Nat.{ℕ, ◌+◌, ◌*◌, ◌-◌, ◌/◌, ◌≤◌, ◌<◌, min, max}
use mathlib.Core.Bool.{false}
use mathlib.Core.Logic.{⊎_elim}
use mathlib.Core.Path.{◌≡◌}
use native.Mathlib.Omega.{arith}
use lib.Dec.{ltb, eqb}
use borrow.Author.Tests.{ltb-true, ltb-false, eqb-false, le-ltb}
use Rattle.rows.proofs.Laws.{decided, cond_cases}
use Rattle.clock.specs.declared.Clock.{Clock}
use Rattle.clock.specs.Clock.{last_time, time_for}

-- a clock that takes a reading: y is not behind r, there is a time above it, and the reading is in range
abbrev pub Takes : Clock → ℕ → Type 0
Takes c t = (c.r ≤ c.y) × (c.y < last_time) × (t ≤ last_time)

-- y in range and not the last time: there is one above it
pub not_last : (y : ℕ) → ltb last_time y ≡ false → eqb y last_time ≡ false → y < last_time
not_last y e f = omega (arith, ltb-false last_time y e, eqb-false y last_time f)

-- a rise of more than twice the lead: the reading
pub time_caught : (c : Clock) (t : ℕ) → Takes c t → 2 * c.y < c.r + t → time_for c t ≡ t
unfolding time_for
time_caught c t s h = rw (le-ltb t c.r (omega (arith, s.0))) (omega (arith, s.0, s.2))

-- else y, and on by half of the rise, by 1 at least; a reading that fell rose by 0
pub time_ahead : (c : Clock) (t : ℕ) → Takes c t → c.r + t ≤ 2 * c.y → time_for c t ≡ min last_time (c.y + max 1 ((t - c.r) / 2))
unfolding time_for
time_ahead c t s h =
    cond_cases (λ (n : ℕ). n ≡ min last_time (c.y + max 1 ((t - c.r) / 2))) (ltb t c.r) _ _ (λ e. omega (arith, s.1, ltb-true t c.r e))
    (λ e. omega (arith, ltb-false t c.r e))

-- what holds of both holds of the time issued
pub by_rise : (P : ℕ → Type 0) (c : Clock) (t : ℕ) → Takes c t → (2 * c.y < c.r + t → P t)
    → (c.r + t ≤ 2 * c.y → P (min last_time (c.y + max 1 ((t - c.r) / 2)))) → P (time_for c t)
by_rise P c t s caught ahead =
    ⊎_elim (λ e. let h = ltb-true (2 * c.y) (c.r + t) e in rw (time_caught c t s h) (caught h))
    (λ e. let h = ltb-false (2 * c.y) (c.r + t) e in rw (time_ahead c t s h) (ahead h))
    (decided (ltb (2 * c.y) (c.r + t)))
