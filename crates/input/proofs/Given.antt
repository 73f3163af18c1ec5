-- What is read: the times set so far, and the first bytes of an input.
use Prim.Native.Nat.{ℕ, ◌+◌, ◌*◌, ◌-◌, ◌≤◌, ◌<◌, min}
use mathlib.Core.Path.{◌≡◌, sym, ap, ◌∙◌}
use mathlib.Core.List.{List, [], ◌∷◌, ◌++◌}
use native.Mathlib.Omega.{arith}
use native.Mathlib.Numerals.{add-one}
use native.Mathlib.Nat.{min-eq_left, min-eq_right}
use mathlib.Core.Logic.{⊎_elim}
use borrow.Author.Tests.{leb-true, leb-false}
use lib.Dec.{leb}
use lib.ListN.{length, take, drop, set, replicate, length-drop, drop_of_length-le}
use lib.Seq.{take-suc-set, take_all, take-length, length-take-le}
use Rattle.rows.proofs.Laws.{decided}
use Rattle.wire.specs.Parts.{splice}
use Rattle.wire.specs.Numbers.{byte_at, be16, be32}
use Rattle.drops.specs.Arrival.{arrival}
use Rattle.yard.specs.Yard.{most_routers}
use Rattle.yard.specs.Walk.{Walked, visit, Tells, WalkTells}
use Rattle.input.specs.Input.{start_size, head_size, head_of, visit_of, times_of, walk_in, walk_for}
use Rattle.format.specs.Sizes.{ipv4, output_size}

-- one time more
pub time_set : (times : List ℕ) (i : ℕ) → take i times ≡ times_of i → length times ≡ 32 → i < 32
    → take (i + 1) (set times i (65536 * i)) ≡ times_of (i + 1)
unfolding times_of
time_set times i e n h =
    rw (add-one i) (take-suc-set times i (65536 * i) (omega arith) ∙ ap (λ (l : List ℕ). l ++ (65536 * i ∷ [])) e)

-- all of them
pub times-set : (times : List ℕ) (i : ℕ) → take i times ≡ times_of i → length times ≡ 32 → i ≤ 32 → 32 ≤ i → times ≡ times_of 32
times-set times i e n h k =
    let all : i ≡ 32 = omega arith in
    sym (take_all 32 times (omega arith)) ∙ ap (λ (j : ℕ). take j times) (sym all) ∙ e ∙ ap times_of all

-- what a list has of its first bytes, and what stands behind them: a number past its end comes to the same as its length
up_to_end : {A : Type 0} (f : ℕ → A) (n : ℕ) (l : List ℕ) → (length l ≤ n → f (length l) ≡ f n) → f (min n (length l)) ≡ f n
up_to_end f n l past =
    ⊎_elim
    (λ e. rw (min-eq_left (leb-true n (length l) e)))
    (λ e.
    let short : length l < n = leb-false n (length l) e in
    rw (min-eq_right {n = length l} {m = n} (omega arith)) (past (omega arith)))
    (decided (leb n (length l)))

take_there : (n : ℕ) (l : List ℕ) → take (min n (length l)) l ≡ take n l
take_there n l = up_to_end (λ k. take k l) n l (λ h. take-length l ∙ sym (take_all n l h))

drop_there : (n : ℕ) (l : List ℕ) → drop (min n (length l)) l ≡ drop n l
drop_there n l =
    up_to_end (λ k. drop k l) n l
    (λ h. drop_of_length-le l {i = length l} (omega arith) ∙ sym (drop_of_length-le l {i = n} h))

pub head_there : (input head : List ℕ) (n : ℕ) → n ≡ min head_size (length input) → head ≡ splice (replicate head_size 0) 0 (take n input) → head ≡ head_of input
unfolding head_of
head_there input head n e w = w ∙ rw (e, take_there head_size input)

-- no more is taken than there is, and no more than 36
pub head_within : (input : List ℕ) (n : ℕ) → n ≡ min head_size (length input) → (n ≤ head_size) × (n ≤ length input)
head_within input n e =
    ⊎_elim
    (λ f. let all : n ≡ head_size = e ∙ min-eq_left (leb-true head_size (length input) f) in (omega arith, omega (arith, leb-true head_size (length input) f)))
    (λ f.
    let short : length input < head_size = leb-false head_size (length input) f in
    let all : n ≡ length input = e ∙ min-eq_right {n = length input} {m = head_size} (omega arith) in
    (omega arith, omega arith))
    (decided (leb head_size (length input)))

pub head_fits : (input : List ℕ) (n : ℕ) → n ≡ min head_size (length input) → 0 + length (take n input) ≤ head_size
head_fits input n e = omega (arith, length-take-le n input (head_within input n e).1, (head_within input n e).0)

-- a slice to its end is all that is left
to_end : (s : List ℕ) (n : ℕ) → take (length s - n) (drop n s) ≡ drop n s
to_end s n = take_all (length s - n) (drop n s) (omega (arith, length-drop n s))

-- the walk from where the first bytes say
pub walk_from : (head yard output output' times : List ℕ) (router interface destination ttl : ℕ) (r : Walked)
    → times ≡ times_of most_routers → router ≡ be16 head 0 → interface ≡ be16 head 2 → destination ≡ be32 head 4 → ttl ≡ byte_at head 8 → length output ≡ output_size
    → WalkTells ipv4 yard times (visit router (arrival (take (length head - start_size) (drop start_size head)) destination interface ttl)) output r output'
    → Tells ipv4 (walk_in head yard) output r output'
unfolding walk_in visit_of
walk_from head yard output output' times router interface destination ttl r et er ei ed el eo w =
    rw (to_end head start_size, et, er, ei, ed, el, eo) at w

-- and the walk that the input asks for
pub walk_asked : (input head output output' : List ℕ) (n : ℕ) (r : Walked) → head ≡ head_of input → n ≡ min head_size (length input)
    → Tells ipv4 (walk_in head (take (length input - n) (drop n input))) output r output' → Tells ipv4 (walk_for input) output r output'
unfolding walk_for
walk_asked input head output output' n r eh en w = rw (eh, to_end input n, en, drop_there head_size input) at w
