-- The product's clock meets its demand, and so does its UNIX time; and neither leaves a choice.
use Prim.Native.Nat.{ℕ, ◌≤◌, ◌<◌}
use mathlib.Core.Bool.{or-true}
use mathlib.Core.Logic.{◌⊎◌, inl, inr, ⊎_elim}
use mathlib.Core.Path.{◌≡◌, refl, sym, ◌∙◌}
use native.Mathlib.Omega.{arith}
use borrow.Author.Tests.{ltb-true, ltb-false, le-ltb, lt-ltb, le-leb, lt-leb}
use lib.Dec.{ltb}
use Rattle.rows.specs.Rows.{by_first}
use Rattle.rows.proofs.Laws.{decided}
use Rattle.clock.specs.declared.Clock.{Clock}
use Rattle.unix.specs.Unix.{Units}
use Rattle.clock.specs.Clock.{last_time, clock_of, time_for, start_of, advance_of, arrival_of}
use Rattle.unix.specs.Unix.{last_second, second_nanos, clock_unix, refused_units, unix_of}
use Rattle.clock.proofs.Laws.{accepts, always_sound, issues_rise, never_twice, lead_grows, lead_shrinks}
use Rattle.demands.specs.Clock.{Start, Advance, DemandClock, DemandUnix}

pub clock_meets : DemandClock start_of advance_of
unfolding start_of advance_of time_for by_first
clock_meets =
    record {
      starts = λ t h. rw (le-ltb last_time t h);
      starts_not = λ t h. rw (lt-ltb last_time t h);
      back = λ r y t s w h b. rw (accepts (clock_of r y) t (s, w, h), lt-ltb t r b);
      forth = λ r y t s w h b. rw (accepts (clock_of r y) t (s, w, h), le-ltb t r b);
      below = λ r y t h. rw (lt-ltb y r h);
      above = λ r y t s h. rw (le-ltb y r s, lt-ltb last_time y h);
      far = λ r y t s w h. rw (le-ltb y r s, le-ltb last_time y w, lt-ltb last_time t h);
      spent = λ r y t s e. rw (le-ltb y r s, e, or-true (ltb last_time t));
      sound = always_sound;
      rises = issues_rise;
      never_twice = never_twice;
      grows = lead_grows;
      half_rate = λ c ts. lead_shrinks ts c;
    }

-- below or not
split : (x y : ℕ) → (x < y) ⊎ (y ≤ x)
split x y = ⊎_elim (λ e. inl (ltb-true x y e)) (λ e. inr (ltb-false x y e)) (decided (ltb x y))

-- two clocks that meet the demand are one
module _ (start start' : Start) (advance advance' : Advance) (d : DemandClock start advance) (e : DemandClock start' advance') where
  one_start : (t : ℕ) → start t ≡ start' t
  one_start t =
      ⊎_elim (λ h. d.starts_not t h ∙ sym (e.starts_not t h)) (λ h. d.starts t h ∙ sym (e.starts t h)) (split last_time t)

  one_advance : (c : Clock) (t : ℕ) → advance c t ≡ advance' c t
  one_advance c t =
      let r = c.r in
      let y = c.y in
      ⊎_elim (λ h. d.below r y t h ∙ sym (e.below r y t h))
      (λ s. ⊎_elim (λ h. d.above r y t s h ∙ sym (e.above r y t s h))
      (λ w. ⊎_elim (λ h. d.far r y t s w h ∙ sym (e.far r y t s w h))
      (λ l. ⊎_elim
      (λ b. ⊎_elim (λ h. d.back r y t s b l h ∙ sym (e.back r y t s b l h)) (λ h. d.forth r y t s b l h ∙ sym (e.forth r y t s b l h)) (split t r))
      (λ h. let last : y ≡ last_time = omega arith in d.spent r y t s last ∙ sym (e.spent r y t s last))
      (split y last_time))
      (split last_time t))
      (split last_time y))
      (split y r)

-- the clock's demand leaves no choice
pub no_other_clock : (start : Start) (advance : Advance) → DemandClock start advance
    → ((t : ℕ) → start t ≡ start_of t) × ((c : Clock) (t : ℕ) → advance c t ≡ advance_of c t)
no_other_clock start advance d = (one_start start start_of advance advance_of d clock_meets, one_advance start start_of advance advance_of d clock_meets)

unix_refuses : (s n : ℕ) → (last_second < s) ⊎ (second_nanos ≤ n) → unix_of s n ≡ refused_units clock_unix
unfolding unix_of by_first
unix_refuses s n (inl h) = rw (lt-ltb last_second s h)
unix_refuses s n (inr h) = rw (le-leb second_nanos n h, or-true (ltb last_second s))

pub unix_meets : DemandUnix unix_of arrival_of
unfolding unix_of by_first
unix_meets =
    record { converts = λ s n h l. rw (le-ltb last_second s h, lt-leb second_nanos n l); refuses = unix_refuses; arrives = λ y. refl }

-- nor does that on UNIX time
pub no_other_unix : (unix : ℕ → ℕ → Units) (arrival : ℕ → ℕ) → DemandUnix unix arrival
    → ((s n : ℕ) → unix s n ≡ unix_of s n) × ((y : ℕ) → arrival y ≡ arrival_of y)
no_other_unix unix arrival d = (
  λ s n. ⊎_elim (λ h. d.refuses s n (inl h) ∙ sym (unix_refuses s n (inl h)))
      (λ h. ⊎_elim (λ l. d.converts s n h l ∙ sym (unix_meets.converts s n h l))
      (λ l. d.refuses s n (inr l) ∙ sym (unix_refuses s n (inr l)))
      (split n second_nanos))
      (split last_second s),
  d.arrives,
)
