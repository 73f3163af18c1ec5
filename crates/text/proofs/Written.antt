-- Bytes written into a text one behind the other: two runs of them are one.
use Prim.Native.Nat.{ℕ, ◌+◌, ◌≤◌}
use mathlib.Core.Path.{◌≡◌, sym, ◌∙◌}
use mathlib.Core.List.{List, ◌++◌, append_assoc}
use native.Mathlib.Omega.{arith}
use lib.ListN.{length, length-append}
use Rattle.wire.specs.Parts.{splice}
use Rattle.wire.proofs.Laws.{splice_join}
use Rattle.text.specs.Inside.{Written}

-- one run behind another, from any place on
pub then : {xs ys : List ℕ} {a b at next next' : ℕ} {text text' text'' : List ℕ} → at + a + b ≤ length text
    → Written xs a at text text' next → Written ys b next text' text'' next' → Written (xs ++ ys) (a + b) at text text'' next'
then {xs} {ys} {a} {b} {at} {next} {next'} {text} {text'} {text''} room first second =
    let few : length xs ≤ a = first.few in
    record {
      bytes = second.bytes ∙ rw (first.bytes, first.behind) (splice_join text at xs (omega arith) ys);
      behind = omega (arith, second.behind, first.behind, length-append xs ys);
      few = omega (arith, first.few, second.few, length-append xs ys);
    }

-- what each writer promises: its bytes stand behind what was written before, and they are not more than were foreseen
module _ (xs text text' : List ℕ) (a : ℕ) (bytes : text' ≡ text ++ xs) (few : length text' ≤ length text + a) where
  -- one writer behind another
  pub appended : (ys text'' : List ℕ) (b : ℕ) → text'' ≡ text' ++ ys → length text'' ≤ length text' + b
      → (text'' ≡ text ++ (xs ++ ys)) × (length text'' ≤ length text + (a + b))
  appended ys text'' b more fewer = (more ∙ rw (bytes, append_assoc), omega (arith, few, fewer))

  -- so in what is lent, which begins with what was written, they are written from behind that on
  pub lent_written : (lent : List ℕ) → length text' ≤ length lent → Written xs a (length text) (splice lent 0 text) (splice lent 0 text') (length text')
  lent_written lent room =
      let long : length text' ≡ length text + length xs = rw (bytes, length-append) in
      let front : 0 + length text ≡ length text = omega arith in
      record {
        bytes = rw bytes (sym (rw front at (splice_join lent 0 text (omega arith) xs)));
        behind = long;
        few = omega (arith, few, long);
      }
