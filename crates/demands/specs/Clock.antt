-- The clock's part of demand 2, of ANY clock: its rule as equations, what it refuses and what it then hands back, and the laws
-- that the rule is for. UNIX time and the arrival time beside it.
use Rattle.std.specs.Prelude.{ℕ, ◌+◌, ◌-◌, ◌/◌, ◌%◌, ◌≤◌, ◌<◌, min, max, List, ◌⊎◌, ◌≡◌}
use Rattle.clock.specs.declared.Clock.{Clock}
use Rattle.clock.specs.declared.Tick.{Tick}
use Rattle.unix.specs.Unix.{Units}
use Rattle.clock.specs.Clock.{last_time, clock_reading, clock_state, clock_of, issued, refused_tick, arrival_times}
use Rattle.unix.specs.Unix.{clock_unix, last_second, second_nanos, units_for, converted, refused_units}
use Rattle.clock.specs.Readings.{after_by, issues_by, all_issues_by, Sound, RiseAbove, NeverTwice, lead, RoseByTwo, Shrunk}

-- a clock: starting it from a reading, and each new reading of it
abbrev pub Start : Type 0
Start = ℕ → Tick

abbrev pub Advance : Type 0
Advance = Clock → ℕ → Tick

-- r is the last reading, y the last issued time. `issued t y`: number 0, the clock of t and y, the time y. `refused_tick n c`:
-- number n, the clock c, the time 0
pub record DemandClock (start : Start) (advance : Advance) : Type 0 where
  -- a clock starts from a reading t and issues t; over 2^48 - 1 it is 31, and the clock that of reading 0
  pub starts : (t : ℕ) → t ≤ last_time → start t ≡ issued t t
  pub starts_not : (t : ℕ) → last_time < t → start t ≡ refused_tick clock_reading (clock_of 0 0)
  -- each reading issues a time above the last. t < r: y becomes y + 1, r becomes t
  pub back : (r y t : ℕ) → r ≤ y → y < last_time → t ≤ last_time → t < r → advance (clock_of r y) t ≡ issued t (y + 1)
  -- t >= r, d = t - r: y becomes the largest of t, y + floor(d/2) and y + 1, but at most 2^48 - 1; r becomes t
  pub forth : (r y t : ℕ) → r ≤ y → y < last_time → t ≤ last_time → r ≤ t
      → advance (clock_of r y) t ≡ issued t (min last_time (max t (max (y + (t - r) / 2) (y + 1))))
  -- in this order: y below r, or y over 2^48 - 1, is 33; a reading over 2^48 - 1, or y 2^48 - 1, is 31
  pub below : (r y t : ℕ) → y < r → advance (clock_of r y) t ≡ refused_tick clock_state (clock_of r y)
  pub above : (r y t : ℕ) → r ≤ y → last_time < y → advance (clock_of r y) t ≡ refused_tick clock_state (clock_of r y)
  pub far : (r y t : ℕ) → r ≤ y → y ≤ last_time → last_time < t → advance (clock_of r y) t ≡ refused_tick clock_reading (clock_of r y)
  pub spent : (r y t : ℕ) → r ≤ y → y ≡ last_time → advance (clock_of r y) t ≡ refused_tick clock_reading (clock_of r y)
  -- y >= r, and y in range, of every clock that was started and advanced, whatever the readings
  pub sound : (t : ℕ) (ts : List ℕ) → Sound (after_by advance (start t).clock ts)
  -- whatever the clock and the readings, each time issued is above the last, and none is behind its reading
  pub rises : (c : Clock) (ts : List ℕ) → RiseAbove c.y (issues_by advance c ts)
  -- no clock that was started and advanced issues one time twice
  pub never_twice : (t : ℕ) (ts : List ℕ) → NeverTwice (all_issues_by start advance t ts)
  -- a lead grows by one where the reading stood still, by one more than its fall where it fell, and not where it rose by 1
  pub grows : (c : Clock) (t : ℕ) → (advance c t).number ≡ 0 → t ≤ c.r + 1 → lead (advance c t).clock ≡ lead c + (c.r + 1 - t)
  -- over calls whose reading rose by at least 2 each, and by D in all, a lead e shrinks to at most the larger of 0 and e - D/2
  pub half_rate : (c : Clock) (ts : List ℕ) → RoseByTwo advance c ts → Shrunk c (after_by advance c ts)

-- UNIX time to units: seconds 0 to 2085978495, nanoseconds below 10^9, else 32 and 0 units. The arrival time is y modulo 2^32
pub record DemandUnix (unix : ℕ → ℕ → Units) (arrival : ℕ → ℕ) : Type 0 where
  pub converts : (s n : ℕ) → s ≤ last_second → n < second_nanos → unix s n ≡ converted (units_for s n)
  pub refuses : (s n : ℕ) → (last_second < s) ⊎ (second_nanos ≤ n) → unix s n ≡ refused_units clock_unix
  pub arrives : (y : ℕ) → arrival y ≡ y % arrival_times
