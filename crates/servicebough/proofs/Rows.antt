-- The ways out of handing over what a walk gave, over plain values.
use Prim.Native.Nat.{ℕ, ◌≤◌, ◌<◌}
use mathlib.Core.Path.{◌≡◌, refl, ap}
use Rattle.refusal.specs.Refusal.{number}
use mathlib.Core.List.{List}
use native.Mathlib.Omega.{arith}
use lib.ListN.{length}
use borrow.Author.Tests.{lt-ltb, le-ltb}
use Rattle.rows.specs.Rows.{by_first}
use Rattle.wire.specs.Numbers.{bytes32}
use Rattle.wire.specs.Parts.{splice}
use Rattle.sending.specs.Answer.{sent_home}
use Rattle.yard.specs.declared.End.{End}
use Rattle.yard.specs.declared.End.TheVariants.{Dropped, SentHome, ToGroup, NobodyThere}
use Rattle.yard.specs.declared.Walked as code
use Rattle.refusal.specs.declared.Refusal.{Refusal}
use Rattle.refusal.proofs.Laws.{number_low}
use Rattle.yard.specs.Walk.{Walk, Walked, end_number, walked, Tells}
use Rattle.drops.specs.Drop.{drop_room}
use Rattle.servicebough.specs.Answers.{answer_size, walked_bytes, answer_left, handed, walk_handed}
use Rattle.wire.proofs.Behind.{four_written}
use Rattle.format.specs.Sizes.{ipv4}

-- an end that is no drop is 101 or more
no_drop : (end : End) → ((refusal : Refusal) → end ≡ Dropped refusal → ⊥) → sent_home ≤ end_number end
no_drop (Dropped refusal) none = absurd (none refusal refl)
no_drop SentHome none = omega arith
no_drop ToGroup none = omega arith
no_drop NobodyThere none = omega arith

module _ (w : code.Walked) (answer : List ℕ) where
  abbrev r : Walked
  r = walked w

  -- nothing was sent
  pub not_answered : (refusal : Refusal) → w.end ≡ Dropped refusal → answer ≡ answer_left r answer
  unfolding answer_left
  not_answered refusal e =
      let low : end_number w.end < sent_home = rw e (omega (arith, number_low refusal)) in
      simp (lt-ltb _ _ low)

  -- end, steps, blocks and length
  pub answered : (a b c e : List ℕ) → ((refusal : Refusal) → w.end ≡ Dropped refusal → ⊥) → answer_size ≤ length answer → a ≡ splice answer 0 (bytes32 r.end)
      → b ≡ splice a 4 (bytes32 r.steps) → c ≡ splice b 8 (bytes32 r.blocks) → e ≡ splice c 12 (bytes32 r.length)
      → e ≡ answer_left r answer
  unfolding answer_left walked_bytes
  answered a b c e h room ea eb ec ee =
      let all = four_written 2 0 r.end r.steps answer a b ea eb r.blocks c ec r.length e ee (omega arith) in
      simp (le-ltb _ _ (no_drop w.end h)) all

module _ (w : Walk) (output answer : List ℕ) where
  -- too little room for the answer
  pub no_answer : length answer < answer_size → handed drop_room output answer ≡ walk_handed w output answer
  unfolding walk_handed by_first
  no_answer h = simp (lt-ltb _ _ h)

  -- what a walk tells is what is handed over
  pub walk-told : (k : code.Walked) (output' answer' : List ℕ) → answer_size ≤ length answer → Tells ipv4 w output (walked k) output'
      → answer' ≡ answer_left (walked k) answer → handed (end_number k.end) output' answer' ≡ walk_handed w output answer
  unfolding walk_handed by_first
  walk-told k output' answer' room t e =
      simp (le-ltb _ _ room) (rw (e, t.sends) (ap (λ (x : Walked). handed x.end (splice output 0 w.last) (answer_left x answer)) t.answer))

  -- and of one that is refused its number
  pub walk_refused : (refusal : Refusal) (output' : List ℕ) → answer_size ≤ length answer
      → Tells ipv4 w output (record { end = number refusal; steps = 0; blocks = 0; length = 0 }) output'
      → handed (number refusal) output' answer ≡ walk_handed w output answer
  unfolding walk_handed by_first answer_left
  walk_refused refusal output' room t =
      let end : number refusal ≡ w.end = ap (λ (x : Walked). x.end) t.answer in
      let low : w.end < sent_home = omega (arith, end, number_low refusal) in
      simp (le-ltb _ _ room, lt-ltb _ _ low, t.sends, end)
