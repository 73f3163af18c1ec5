-- The last message sent stands in the output, and the text of a walk is its first line and the lines of that message.
use Prim.Native.Nat.{ℕ, ◌≤◌}
use mathlib.Core.Path.{◌≡◌, sym, ap, ◌∙◌}
use mathlib.Core.List.{List, [], ◌++◌}
use native.Mathlib.Omega.{arith}
use lib.ListN.{length, take, drop, length-append}
use lib.Seq.{take-append_seam, length-take-le}
use Rattle.wire.proofs.Laws.{splice_front}
use Rattle.message.specs.Blocks.{standard_blocks}
use Rattle.yard.specs.Walk.{Walked, Walk, Tells}
use Rattle.input.specs.Input.{walk_for}
use Rattle.text.specs.Text.{lines_of, first_line, walk_text, text_of}
use Rattle.format.specs.Sizes.{ipv4}

module _ (w : Walk) (output output' : List ℕ) (r s : Walked) (same : s ≡ r) (told : Tells ipv4 w output r output') where
  -- the output begins with it
  length_is : s.length ≡ length w.last
  length_is = ap (λ (x : Walked). x.length) (same ∙ told.answer)

  begins_with : output' ≡ w.last ++ drop (length w.last) output
  begins_with = told.sends ∙ splice_front output w.last

  pub last_inside : s.length ≤ length output'
  last_inside = rw (length_is, begins_with) (omega (arith, length-append w.last (drop (length w.last) output)))

  pub last_taken : take s.length output' ≡ w.last
  last_taken = rw (length_is, begins_with) (take-append_seam w.last (drop (length w.last) output))

  pub last_count : s.length ≡ length (take s.length output')
  last_count = sym (length-take-le s.length output' last_inside)

-- both written, the text is
pub text_told : (input output output' text text' text'' : List ℕ) (w r : Walked) → w ≡ r → Tells ipv4 (walk_for input) output r output'
    → text ≡ [] → text' ≡ text ++ first_line w → text'' ≡ text' ++ lines_of 1 (standard_blocks ipv4 (take w.length output'))
    → text'' ≡ text_of input
unfolding text_of walk_text
text_told input output output' text text' text'' w r same told none first second =
    let last = rw (last_taken (walk_for input) output output' r w same told) at second in
    last ∙ rw (first, none, same, told.answer)
