-- Laws of the links: the verdict is the first name that applies, a link is counted where none does, no more is lost than was sent, and
-- swapping the two Replies turns what rose into what fell.
use Prim.Native.Nat.{ℕ, suc, ◌+◌, ◌-◌, ◌≤◌, ◌<◌}
use mathlib.Core.Path.{◌≡◌, refl, sym, ap, ◌∙◌}
use mathlib.Core.Bool.{Bool, true, false, cond, ◌||◌, true≢false}
use mathlib.Core.List.{List, [], ◌∷◌}
use native.Mathlib.Omega.{arith}
use borrow.Author.Tests.{lt-ltb, ltb-false}
use lib.ListN.{length}
use Rattle.rows.specs.Rows.{NoneApplies, IsFirst, by_first, first_of}
use Rattle.rows.proofs.Laws.{neither_of, both_of, first_is, none_is}
use Rattle.standard.specs.declared.Standard.{Standard}
use Rattle.reply.specs.Reader.{standards_in}
use Rattle.link.specs.declared.Count.{Count}
use Rattle.link.specs.declared.Link.{Link}
use Rattle.link.specs.declared.Link.TheVariants.{NotCounted, Fallen, Surplus}
use Rattle.loss.specs.Path.{same_router, same_path}
use Rattle.link.specs.Link.{all_ones, not_counted, fallen, surplus, sent_of, received_of, names, named, counted, link_of, verdict_of, tally_of, count_of}
use Rattle.loss.specs.Loss.{links_from, links_of, links_in}
use Rattle.loss.specs.Risen.{Risen, TurnFallen}

-- a link by the three tests
abbrev link_by_tests : Bool → Bool → Bool → ℕ → ℕ → Link
link_by_tests x y z sent received = cond x NotCounted (cond y Fallen (cond z Surplus (counted sent received)))

verdict_by : (x y z : Bool) (sent received : ℕ) → verdict_of (link_by_tests x y z sent received) ≡ cond x 1 (cond y 2 (cond z 3 0))
verdict_by true y z sent received = refl
verdict_by false true z sent received = refl
verdict_by false false true sent received = refl
verdict_by false false false sent received = refl

sum_by : (x y z : Bool) (sent received : ℕ) → (z ≡ false → received ≤ sent)
    → (tally_of (link_by_tests x y z sent received)).received + (tally_of (link_by_tests x y z sent received)).lost ≡ (tally_of (link_by_tests x y z sent received)).sent
sum_by true y z sent received f = refl
sum_by false true z sent received f = refl
sum_by false false true sent received f = refl
sum_by false false false sent received f = omega (arith, f refl)

risen_by : (x y z : Bool) (sent received : ℕ) → Risen (link_by_tests x y z sent received) → (x ≡ false) × (0 < sent)
risen_by true y z sent received h = absurd (omega arith)
risen_by false true z sent received h = absurd (omega arith)
risen_by false false true sent received h = absurd (omega arith)
risen_by false false false sent received h = (refl, h)

-- four tests, two and two swapped
swap_tests : (a b c d : Bool) → a || b || c || d ≡ false → c || d || a || b ≡ false
swap_tests a b c d e =
    let abc = neither_of (a || b || c) d e in
    let ab = neither_of (a || b) c abc.0 in
    let each = neither_of a b ab.0 in
    rw (ab.1, abc.1, each.0, each.1)

module _ (first second : Count) where
  abbrev link : Link
  link = link_of first second

  by_tests : link ≡ link_by_tests (not_counted first second) (fallen first second) (surplus first second) (sent_of first second) (received_of first second)
  unfolding link_of names by_first
  by_tests = refl

  -- counted where none of the names applies, else the first that does
  pub counted_where : NoneApplies (names first second) → link ≡ counted (sent_of first second) (received_of first second)
  unfolding link_of
  counted_where none = none_is named _ (names first second) none

  pub named_where : (n : ℕ) → IsFirst (names first second) n → link ≡ named n
  unfolding link_of
  named_where n f = first_is named _ (names first second) n f

  -- the verdict is the first name that applies; 0 where none does
  pub verdict_first : verdict_of link ≡ first_of (names first second)
  unfolding names by_first
  verdict_first = ap verdict_of by_tests ∙ verdict_by (not_counted first second) (fallen first second) (surplus first second) _ _

  -- what was received and what was lost make what was sent: so no more is lost than was sent
  pub lost_of_sent : (tally_of link).received + (tally_of link).lost ≡ (tally_of link).sent
  lost_of_sent =
      rw by_tests (sum_by (not_counted first second) (fallen first second) (surplus first second) _ _ (λ e. ltb-false _ _ e))

  pub lost_at_most : (tally_of link).lost ≤ (tally_of link).sent
  lost_at_most = omega (arith, lost_of_sent)

  -- swapped, a link that rose has fallen
  pub rise_falls : Risen link → link_of second first ≡ Fallen
  unfolding link_of names by_first
  rise_falls h =
      let rose = risen_by (not_counted first second) (fallen first second) (surplus first second) (sent_of first second) (received_of first second) (rw by_tests at h) in
      let counts = swap_tests (all_ones first.sent) (all_ones first.received) (all_ones second.sent) (all_ones second.received) rose.0 in
      rw (counts, lt-ltb first.sent second.sent (omega (arith, rose.1)))

-- so have all of them
swapped_from : (near near' : Standard) (xs ys : List Standard) → TurnFallen (links_from near near' xs ys) (links_from near' near ys xs)
unfolding links_from
swapped_from near near' [] [] = tt
swapped_from near near' [] (y ∷ ys) = tt
swapped_from near near' (x ∷ xs) [] = tt
swapped_from near near' (x ∷ xs) (y ∷ ys) = (rise_falls (count_of near x) (count_of near' y), swapped_from x y xs ys)

swapped_of : (xs ys : List Standard) → TurnFallen (links_of xs ys) (links_of ys xs)
unfolding links_of
swapped_of [] [] = tt
swapped_of [] (y ∷ ys) = tt
swapped_of (x ∷ xs) [] = tt
swapped_of (x ∷ xs) (y ∷ ys) = swapped_from x y xs ys

pub swapped_fall : (first second : List ℕ) → TurnFallen (links_in first second) (links_in second first)
swapped_fall first second = swapped_of (standards_in first) (standards_in second)

-- over one path there is a link for each block but the first
count_from : (near near' : Standard) (xs ys : List Standard) → same_path xs ys ≡ true → length (links_from near near' xs ys) ≡ length xs
unfolding links_from same_path
count_from near near' [] ys e = refl
count_from near near' (x ∷ xs) [] e = absurd (true≢false (sym e))
count_from near near' (x ∷ xs) (y ∷ ys) e = ap suc (count_from x y xs ys (both_of (same_router x y) _ e).1)

pub links-count : (xs ys : List Standard) → same_path xs ys ≡ true → length (links_of xs ys) ≡ length xs - 1
unfolding links_of same_path
links-count [] ys e = refl
links-count (x ∷ xs) [] e = absurd (true≢false (sym e))
links-count (x ∷ xs) (y ∷ ys) e = count_from x y xs ys (both_of (same_router x y) _ e).1 ∙ omega arith
