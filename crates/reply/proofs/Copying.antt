-- The ways out of `copy_next`, each from the tests and the calls that led to it.
use Prim.Native.Nat.{ℕ, ◌+◌, ◌-◌, ◌≤◌, ◌<◌}
use mathlib.Core.Path.{◌≡◌, refl, sym, ap, ◌∙◌}
use mathlib.Core.Bool.{Bool, true, false, ◌&&◌, true≢false}
use mathlib.Core.List.{List, [], ◌∷◌, ◌++◌}
use mathlib.Core.Logic.{⊎_elim}
use native.Mathlib.Omega.{arith}
use borrow.Author.Tests.{lt-leb, le-leb, ne_eqb, eqb-true}
use lib.Dec.{leb, eqb}
use lib.ListN.{length, get_or, take, drop, length-take, length-drop}
use Rattle.std.specs.Prelude.{Option, Some, None, slice_get, Result, Ok, Err}
use Rattle.std.specs.Result.{is_err}
use Rattle.wire.specs.Parts.{part, splice}
use Rattle.wire.proofs.Laws.{splice_front}
use Rattle.header.specs.Format.{header_size, standard_size, most}
use Rattle.message.specs.Blocks.{blocks_end}
use Rattle.message.specs.Inside.{standards_from}
use Rattle.message.proofs.Laws.{first_inside}
use Rattle.refusal.specs.declared.Refusal.{Refusal}
use Rattle.refusal.specs.Refusal.{number_of}
use Rattle.refusal.proofs.Laws.{number_positive}
use Rattle.rows.specs.Rows.{first_of}
use Rattle.rows.proofs.Laws.{given_alone, none_alone, first_or_none, first_is, cond_cases, both_of, decided}
use Rattle.reply.specs.Check.{reply_rows, Readable}
use Rattle.standard.specs.Standard.{standard_of}
use Rattle.reply.specs.Reader.{Handed, handed_by, next_from}
use Rattle.reply.specs.Copy.{is_place, is_readable, Copied, copied, copied_out, copied_next, place_behind}
use Rattle.reply.proofs.Places.{found_inside}
use Rattle.reply.proofs.Readable.{readable_known, checked_known, known_fills}
use Rattle.reply.proofs.Search.{hands_none, hands_it}
use Rattle.format.specs.Sizes.{ipv4, ipv4_sound}

-- the number of a check that did not refuse
passed : (r : Result (Unit {0}) Refusal) → is_err r ≡ false → number_of r ≡ 0
passed (Ok u) e = refl
passed (Err f) e = absurd (true≢false e)

-- what `is_place` asks of a message that was checked
pub asks_place : (s : List ℕ) (r : Result (Unit {0}) Refusal) → number_of r ≡ first_of (reply_rows s) → is_err r ≡ false
    → (header_size ≤ length s) × (blocks_end ipv4 s ≡ length s)
asks_place s r e t = let k = checked_known s (number_of r) e (passed r t) in (k.low, known_fills s k)

-- what a call answers and leaves
module _ (s : List ℕ) (place : ℕ) (block : List ℕ) where
  pub record Left (answer : Option ℕ) (left : List ℕ) : Type 0 where
    pub told : answer ≡ place_behind (copied_next s place block).answer
    pub stands : left ≡ (copied_next s place block).block

  nothing : copied 0 block ≡ copied_next s place block → Left None block
  nothing e = record { told = ap (λ (c : Copied). place_behind c.answer) e; stands = ap (λ (c : Copied). c.block) e }

  pub no_room : length block < standard_size → Left None block
  unfolding copied_next
  no_room h = nothing (rw (lt-leb _ _ h))

  module _ (room : standard_size ≤ length block) where
    refused : (r : Result (Unit {0}) Refusal) → is_err r ≡ true → number_of r ≡ 0 → ⊥
    refused (Ok u) t z = true≢false (sym t)
    refused (Err e) t z = absurd (omega (arith, number_positive e, z))

    module _ (r : Result (Unit {0}) Refusal) (er : number_of r ≡ first_of (reply_rows s)) where
      pub not_read : is_err r ≡ true → Left None block
      unfolding copied_next
      not_read t = nothing (rw (le-leb _ _ room, given_alone (λ _. false) true (reply_rows s) (number_of r) er (refused r t)))

      module _ (read : is_err r ≡ false) (f : Bool) (ef : f ≡ is_place s place) where
        tests : leb standard_size (length block) && is_readable s && is_place s place ≡ f
        unfolding reply_rows
        tests = rw (le-leb _ _ room, none_alone (λ _. false) true (reply_rows s) (number_of r) er refl (passed r read)) (sym ef)

        pub no_place : f ≡ false → Left None block
        unfolding copied_next
        no_place t = nothing (rw (tests, t))

        module _ (t : f ≡ true) where
          goes : copied_next s place block ≡ copied_out (next_from s place) block
          unfolding copied_next
          goes = rw (tests, t)

          pub none_left : None ≡ slice_get (standards_from ipv4 s place) 0 → Left None block
          none_left e = nothing (sym (goes ∙ ap (λ (h : Handed). copied_out h block) (sym (hands_none s place e))))

          module _ (at : ℕ) (e : Some at ≡ slice_get (standards_from ipv4 s place) 0) where
            abbrev bytes : List ℕ
            bytes = part at standard_size s

            bytes-length : length bytes ≡ standard_size
            bytes-length = length-take standard_size (drop at s) ∙ rw (length-drop at s) (omega (arith, found_inside s place at e))

            pub copies : (now : List ℕ) → now ≡ take (at + standard_size - at) (drop at s) → Left (Some (at + standard_size)) (now ++ drop standard_size block)
            unfolding standard_of
            copies now l =
                let n : at + standard_size ≡ 0 → ⊥ = λ z. omega arith in
                let size : at + standard_size - at ≡ standard_size = omega arith in
                let over : splice block 0 bytes ≡ now ++ drop standard_size block =
                splice_front block bytes ∙ rw (bytes-length, l, size) in
                let e : copied (at + standard_size) (now ++ drop standard_size block) ≡ copied_next s place block =
                sym (goes ∙ ap (λ (h : Handed). copied_out h block) (sym (hands_it s place at e)) ∙ ap (copied (at + standard_size)) over) in
                record { told = rw (ne_eqb _ _ n) at (ap (λ (c : Copied). place_behind c.answer) e); stands = ap (λ (c : Copied). c.block) e }

-- no answer passes the longest message
readable_so : (s : List ℕ) → is_readable s ≡ true → Readable s
readable_so s t =
    ⊎_elim
    (λ f. absurd (true≢false (sym t ∙ first_is (λ _. false) true (reply_rows s) _ f)))
    (λ none. none)
    (first_or_none (reply_rows s))

module _ (s : List ℕ) (place : ℕ) (block : List ℕ) where
  out_high : (places : List ℕ) → (0 < length places → get_or places 0 0 + standard_size ≤ length s) → length s ≤ most
      → (copied_out (handed_by s place places) block).answer ≤ most
  out_high [] within high = omega arith
  out_high (at ∷ places) within high = omega (arith, within (omega arith))

  pub answer_high : (copied_next s place block).answer ≤ most
  unfolding copied_next next_from standards_from
  answer_high =
      cond_cases (λ (c : Copied). c.answer ≤ most) (leb standard_size (length block) && is_readable s && is_place s place)
      (copied_out (next_from s place) block) (copied 0 block)
      (λ t.
      let read : is_readable s ≡ true = (both_of (leb standard_size (length block)) _ (both_of (leb standard_size (length block) && is_readable s) _ t).0).1 in
      out_high (standards_from ipv4 s place) (first_inside ipv4_sound s place) (readable_known s (readable_so s read)).high)
      (λ t. omega arith)

-- the answer that code gives, as a number
pub behind_told : (answer behind : ℕ) → Some behind ≡ place_behind answer → behind ≡ answer
behind_told answer behind e =
    cond_cases (λ (o : Option ℕ). Some behind ≡ o → behind ≡ answer) (eqb answer 0) None (Some answer) (λ _ p. cc) (λ _ p. cc) e

pub none_told : (answer : ℕ) → None ≡ place_behind answer → 0 ≡ answer
none_told answer e =
    ⊎_elim (λ t. sym (eqb-true answer 0 t)) (λ t. let p : None ≡ Some answer = rw t at e in cc) (decided (eqb answer 0))
