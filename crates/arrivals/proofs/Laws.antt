-- The difference of two arrival times is the only number in its range that leads from the one to the other.
use Rattle.std.proofs.Common.{◌≡◌, ℕ, suc, ◌+◌, ◌-◌, ◌%◌, ◌<◌, ◌≤◌, ltb, ℤ, pos, negsuc, ap, ◌∙◌, ⊎_elim, arith, ltb-false, ltb-true, le-ltb, lt-ltb}
use Rattle.rows.proofs.Laws.{decided}
use Rattle.clock.specs.Clock.{arrival_times}
use Rattle.arrivals.specs.Difference.{half_times, apart, signed, difference_of, InRange, later_by}

-- later is earlier and the difference, modulo 2^32; the difference is in range; and no other number is both
signed_range : (n : ℕ) → n < arrival_times → InRange (signed n)
signed_range n h =
    ⊎_elim
    (λ t. rw t (ltb-true _ _ t))
    (λ t. let high : half_times ≤ n = ltb-false _ _ t in rw t (omega arith))
    (decided (ltb n half_times))

signed_later : (n earlier : ℕ) → n < arrival_times → later_by (signed n) earlier ≡ (earlier + n) % arrival_times
signed_later n earlier h =
    ⊎_elim
    (λ t. rw t)
    (λ t.
    let again : arrival_times - suc (arrival_times - 1 - n) ≡ n = omega arith in
    rw t (ap (λ (m : ℕ). (earlier + m) % arrival_times) again))
    (decided (ltb n half_times))

module _ (later earlier : ℕ) (h : later < arrival_times) (k : earlier < arrival_times) where
  apart_low : apart later earlier < arrival_times
  apart_low = omega arith

  pub difference_range : InRange (difference_of later earlier)
  unfolding difference_of
  difference_range = signed_range (apart later earlier) apart_low

  pub difference_exact : later_by (difference_of later earlier) earlier ≡ later
  unfolding difference_of
  difference_exact = signed_later (apart later earlier) earlier apart_low ∙ omega arith

  pub difference_only : (d : ℤ) → InRange d → later_by d earlier ≡ later → d ≡ difference_of later earlier
  unfolding difference_of
  difference_only (pos n) r e = let same : n ≡ apart later earlier = omega arith in rw (← same, lt-ltb _ _ r)
  difference_only (negsuc n) r e =
      let same : arrival_times - suc n ≡ apart later earlier = omega arith in
      let high : half_times ≤ arrival_times - suc n = omega arith in
      let again : arrival_times - 1 - (arrival_times - suc n) ≡ n = omega arith in
      rw (← same, le-ltb _ _ high, again)
