-- What the clock keeps, for all readings whatever: each time issued is above the last and at least its reading, a lead grows by
-- as little as that asks for, and it shrinks at half rate. And a UNIX time comes to 0 only where it is refused.
use Prim.Native.Nat.{ℕ, zero, suc, ◌+◌, ◌-◌, ◌≤◌, ◌<◌}
use mathlib.Core.List.{List, [], ◌∷◌}
use mathlib.Core.Path.{◌≡◌, refl}
use native.Mathlib.Omega.{arith}
use lib.Dec.{leb, ltb}
use lib.ListN.{length, get_or}
use borrow.Author.Tests.{ltb-false, leb-true, le-ltb, ne_eqb}
use Rattle.rows.specs.Rows.{by_first, NoneApplies}
use Rattle.rows.proofs.Laws.{by_rows, first_passes, neither_of}
use Rattle.clock.specs.declared.Clock.{Clock}
use Rattle.clock.specs.declared.Tick.{Tick}
use Rattle.clock.specs.Clock.{last_time, out_of_range, spent, clock_of, issued, refused_tick, time_for, start_rows, advance_rows, start_of, advance_of}
use Rattle.clock.specs.Readings.{after_by, after, Issue, issue_then, issues_by, issues, all_issues, times, Sound, RiseAbove, NeverTwice, lead, RoseByTwo, Shrunk}
use Rattle.clock.proofs.Time.{Takes, not_last, by_rise}

-- the time issued is above the last one
time_rises : (c : Clock) (t : ℕ) → Takes c t → c.y < time_for c t
time_rises c t s = by_rise (λ (n : ℕ). c.y < n) c t s (λ h. omega (arith, s.0)) (λ h. omega (arith, s.1))

-- the clock that it comes to is sound: the time issued is at least the reading, and in range
time_leads : (c : Clock) (t : ℕ) → Takes c t → Sound (clock_of t (time_for c t))
time_leads c t s =
    by_rise (λ (n : ℕ). Sound (clock_of t n)) c t s (λ h. record { leads = omega arith; within = s.2 })
    (λ h. record { leads = omega (arith, s.2); within = omega arith })

-- where the reading rose by less than 2: the next time there is
time_next : (c : Clock) (t : ℕ) → Takes c t → t ≤ c.r + 1 → time_for c t ≡ c.y + 1
time_next c t s h = by_rise (λ (n : ℕ). n ≡ c.y + 1) c t s (λ l. omega (arith, s.0)) (λ l. omega (arith, s.1))

-- where it rose by at least 2 the lead shrinks by at least half of the rise, and stops at 0
time_falls : (c : Clock) (t : ℕ) → Takes c t → c.r + 2 ≤ t → Shrunk c (clock_of t (time_for c t))
time_falls c t s h = by_rise (λ (n : ℕ). Shrunk c (clock_of t n)) c t s (λ l. (omega arith, omega arith)) (λ l. (omega arith, omega arith))

passed_rows : (c : Clock) (t : ℕ) → NoneApplies (advance_rows c t) → Takes c t
passed_rows c t none =
    let state = neither_of (ltb c.y c.r) (out_of_range c.y) none.0 in
    let reading = neither_of (out_of_range t) (spent c) none.1.0 in
    (ltb-false _ _ state.0, not_last _ state.1 reading.1, ltb-false _ _ reading.0)

-- a clock that takes a reading issues its time: no row refuses
pub accepts : (c : Clock) (t : ℕ) → Takes c t → advance_of c t ≡ issued t (time_for c t)
unfolding advance_of by_first
accepts c t s =
    rw (le-ltb c.y c.r s.0, le-ltb last_time c.y (omega (arith, s.1)), le-ltb last_time t s.2, ne_eqb c.y last_time (λ e. omega (arith, s.1)))

-- every answer to a reading, by its ways: refused with the clock as it was, or issued by a clock that takes it
by_answer : (P : Tick → Type 0) (c : Clock) (t : ℕ) → ((n : ℕ) → 0 < n → P (refused_tick n c)) → (Takes c t → P (issued t (time_for c t))) → P (advance_of c t)
unfolding advance_of
by_answer P c t no_way way =
    by_rows _ _ P (advance_rows c t) (λ n f. no_way n (leb-true 1 n (first_passes (leb 1) (advance_rows c t) n refl f)))
    (λ none. way (passed_rows c t none))

-- a clock that is started is sound, and it stays so whatever the reading
starts_sound : (t : ℕ) → Sound (start_of t).clock
unfolding start_of
starts_sound t =
    by_rows _ _ (λ (k : Tick). Sound k.clock) (start_rows t) (λ n f. record { leads = omega arith; within = omega arith })
    (λ none. record { leads = omega arith; within = ltb-false _ _ none.0 })

stays_sound : (c : Clock) (t : ℕ) → Sound c → Sound (advance_of c t).clock
stays_sound c t s = by_answer (λ (k : Tick). Sound k.clock) c t (λ n h. s) (time_leads c t)

after_sound : (ts : List ℕ) (c : Clock) → Sound c → Sound (after c ts)
unfolding after_by
after_sound [] c s = s
after_sound (t ∷ ts) c s = after_sound ts (advance_of c t).clock (stays_sound c t s)

-- y is at least r in every clock that was ever started and advanced
pub always_sound : (t : ℕ) (ts : List ℕ) → Sound (after (start_of t).clock ts)
always_sound t ts = after_sound ts (start_of t).clock (starts_sound t)

-- whatever the clock and the readings: the times issued rise, and each is at least its reading
pub issues_rise : (c : Clock) (ts : List ℕ) → RiseAbove c.y (issues c ts)
unfolding issues_by
issues_rise c [] = tt
issues_rise c (t ∷ ts) =
    by_answer (λ (k : Tick). RiseAbove c.y (issue_then t k (issues k.clock ts))) c t
    (λ n h. rw (ne_eqb n 0 (λ e. omega arith)) (issues_rise c ts))
    (λ s. (time_rises c t s, (time_leads c t s).leads, issues_rise (clock_of t (time_for c t)) ts))

-- times that rise, by their places: all are above y, and of two the later is the higher, so that no two are equal
all_above : (is : List Issue) (y : ℕ) → RiseAbove y is → (k : ℕ) → k < length (times is) → y < get_or (times is) k 0
all_above [] y up k h = absurd (omega arith)
all_above (i ∷ is) y up zero h = up.0
all_above (i ∷ is) y up (suc k) h = omega (arith, up.0, all_above is i.time up.2 k (omega arith))

later_higher : (is : List Issue) (i : Issue) → RiseAbove i.time is → (j k : ℕ) → j < k → k < length (times (i ∷ is))
    → get_or (times (i ∷ is)) j 0 < get_or (times (i ∷ is)) k 0
later_higher is i up j zero h l = absurd (omega arith)
later_higher is i up zero (suc k) h l = all_above is i.time up k (omega arith)
later_higher [] i up (suc j) (suc k) h l = absurd (omega arith)
later_higher (i' ∷ is) i up (suc j) (suc k) h l = later_higher is i' up.2 j k (omega arith) (omega arith)

all_differ : (is : List Issue) (y : ℕ) → RiseAbove y is → NeverTwice is
all_differ [] y up j k h l e = omega arith
all_differ (i ∷ is) y up j k h l e = omega (arith, later_higher is i up.2 j k h l)

-- no clock that was ever started and advanced issues one time twice, that of its start among them
pub never_twice : (t : ℕ) (ts : List ℕ) → NeverTwice (all_issues t ts)
unfolding start_of
never_twice t ts =
    by_rows _ _ (λ (k : Tick). NeverTwice (issue_then t k (issues k.clock ts))) (start_rows t)
    (λ n f. rw (ne_eqb n 0 (λ e. omega (arith, leb-true 1 n (first_passes (leb 1) (start_rows t) n refl f)))) (all_differ (issues (clock_of 0 0) ts) 0 (issues_rise (clock_of 0 0) ts)))
    (λ none j k h l e. omega (arith, later_higher (issues (clock_of t t) ts) (record { reading = t; time = t }) (issues_rise (clock_of t t) ts) j k h l))

-- where a reading rose by less than 2 the lead grows: by nothing where it rose by 1, by one where it stood still, and by one more
-- than its fall where it fell
pub lead_grows : (c : Clock) (t : ℕ) → (advance_of c t).number ≡ 0 → t ≤ c.r + 1 → lead (advance_of c t).clock ≡ lead c + (c.r + 1 - t)
lead_grows c t e h =
    by_answer (λ (k : Tick). k.number ≡ 0 → lead k.clock ≡ lead c + (c.r + 1 - t)) c t (λ n l z. absurd (omega arith))
    (λ s z. omega (arith, time_next c t s h, s.0)) e

-- two stretches of readings, one after the other: r the readings, e twice the leads
chain : (r r1 r2 e e1 e2 : ℕ) → r ≤ r1 → r1 ≤ r2 → e1 ≤ e - (r1 - r) → e2 ≤ e1 - (r2 - r1) → (r ≤ r2) × (e2 ≤ e - (r2 - r))
chain r r1 r2 e e1 e2 h1 h2 p q = (omega arith, omega arith)

-- over calls whose reading rose by at least 2 each a lead shrinks at half rate
pub lead_shrinks : (ts : List ℕ) (c : Clock) → RoseByTwo advance_of c ts → Shrunk c (after c ts)
unfolding after_by
lead_shrinks [] c u = (omega arith, omega arith)
lead_shrinks (t ∷ ts) c u =
    by_answer (λ (k : Tick). (k.number ≡ 0 → c.r + 2 ≤ t) × RoseByTwo advance_of k.clock ts → Shrunk c (after k.clock ts)) c t
    (λ n h up. lead_shrinks ts c up.1)
    (λ s up.
    let next = clock_of t (time_for c t) in
    let fall = time_falls c t s (up.0 refl) in
    let later = lead_shrinks ts next up.1 in
    chain c.r t (after next ts).r _ _ _ fall.0 later.0 fall.1 later.1)
    u
