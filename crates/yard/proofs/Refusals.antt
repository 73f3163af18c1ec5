-- A law for each way out of `walk`: a refusal, by the row that gives it, and the walk itself.
use Prim.Native.Nat.{ℕ, ◌≤◌, ◌<◌}
use mathlib.Core.Bool.{Bool, not, false}
use mathlib.Core.List.{List, []}
use mathlib.Core.Path.{◌≡◌, refl, sym, ap, ◌∙◌}
use borrow.Author.Tests.{not-false}
use native.Mathlib.Omega.{arith}
use lib.ListN.{length}
use Rattle.wire.specs.Parts.{splice}
use Rattle.yard.specs.declared.Walked as code
use Rattle.yard.specs.declared.Yard.{Yard}
use Rattle.yard.specs.Yard.{routers_in}
use Rattle.rows.proofs.Laws.{cond_cases}
use Rattle.written.specs.Inside.{Writes}
use Rattle.format.specs.Sizes.{Sound}
use Rattle.yard.proofs.Rows.{no_block}
use lib.Dec.{eqb}
use Rattle.message.specs.Room.{hops_left}
use Rattle.sending.specs.Answer.{sent_on}
use Rattle.yard.specs.Walk.{sent_at, end_of, next_of, enters, ends_at, Walk, Walked, walked, walk_by, Visit, refused_walk, walk_from, walk_of, Tells}
use Rattle.yard.specs.Inside.{YardChecked, CanEnter}
use Rattle.yard.proofs.Sheets.{yard_right}
use Rattle.format.specs.declared.Format.{Format}

module _ {F : Format} (sound : Sound F) (writes : Writes F) where
  -- of a walk that is refused its number is told, and nothing is sent
  pub refused_by : (yard times : List ℕ) (v : Visit) (output : List ℕ) (n : ℕ) → refused_walk n ≡ walk_of F yard times v (length output)
      → Tells F (walk_of F yard times v (length output)) output (record { end = n; steps = 0; blocks = 0; length = 0 }) output
  unfolding splice
  refused_by yard times v output n is =
      rw (← is) (record { answer = ap (λ (k : ℕ). record { end = n; steps = 0; blocks = k; length = 0 }) (no_block sound writes [] (omega (arith, sound.header))); sends = refl })

  -- a walk enters a router
  some_visit : (yard times : List ℕ) (v : Visit) → 0 < length (walk_from F yard times v).visits
  unfolding walk_from walk_by
  some_visit yard times v = let sent = sent_at F yard times v in
      let later = enters v (walk_by F (hops_left F v.arrival.message) yard times (next_of F yard sent)) in
      cond_cases (λ (w : Walk). 0 < length w.visits) (eqb (end_of F yard sent) sent_on) later (ends_at (end_of F yard sent) v sent.message) (λ _. omega arith) (λ _. omega arith)

  pub walk_enters : (yard times : List ℕ) (v : Visit) (output output' : List ℕ) (r : code.Walked) → Tells F (walk_from F yard times v) output (walked r) output' → 0 < r.steps
  walk_enters yard times v output output' r t = omega (arith, ap (λ (w : Walked). w.steps) t.answer, some_visit yard times v)

module _ (F : Format) where
  module _ (yard times : List ℕ) (v : Visit) (output : List ℕ) (r : Walked) where
    pub walk-told : (output' : List ℕ) → Tells F (walk_from F yard times v) output r output' → walk_from F yard times v ≡ walk_of F yard times v (length output)
        → Tells F (walk_of F yard times v (length output)) output r output'
    walk-told output' t is = rw (← is) t

  -- what the walk asks for
  pub walk_ready : (y : Yard) (ok : Bool) → YardChecked F y.sheets.now ok y.interfaces → not ok ≡ false → routers_in y.sheets.now ≤ length y.times.now
      → CanEnter F y
  walk_ready y ok checked right timed =
      let s = yard_right F y.sheets.now (sym checked.is ∙ not-false ok right) in
      record { whole = omega (arith, s.whole); few = s.few; timed = timed; counted = checked.counted (not-false ok right) }
