-- The frame of a block as the code looks at it: a law for each way out.
use Rattle.std.proofs.Common.{◌≡◌, ℕ, ◌*◌, ◌/◌, ◌%◌, ◌<◌, Bool, true, false, not, ◌&&◌, ◌||◌, eqb, ltb, List, length, sym, ap, ◌∙◌, arith}
use borrow.Author.Tests.{not-false}
use Rattle.rows.proofs.Laws.{neither_of}
use Rattle.wire.specs.Numbers.{byte_at}
use Rattle.wire.specs.Parts.{all_zero}
use Rattle.block.specs.Sum.{right_sum, sum_ok}
use Rattle.block.specs.Block.{block_size, kind_of, used_in, block_number, place_in_block, entries_each, unused_of, filled_ok, frame_ok}
use Rattle.block.specs.Inside.{word_size, block_words, switches_word, words, zero_from, Alike}
use Rattle.block.proofs.Sums.{sum_alike}
use Rattle.block.proofs.Unused.{none_left}

-- the entries in use end at a word, where their size is a number of words
ends : (size used : ℕ) → size % word_size ≡ 0 → word_size * (place_in_block size used / word_size) ≡ place_in_block size used
ends size used h =
    let q : ℕ = size / word_size in
    let e : size ≡ word_size * q = omega arith in
    let p : size * used ≡ word_size * (q * used) = omega (arith, ap (λ (n : ℕ). n * used) e) in
    omega arith

-- what one look decides
module _ (b : List ℕ) (kind size number used n : ℕ) (partly full : Bool) (eu : used ≡ used_in b) (en : n ≡ block_number b)
    (ef : full ≡ filled_ok (entries_each size) partly used) where
  abbrev seen : Bool
  seen = not (eqb (kind_of b) kind) || not (eqb n number) || not full

  told : full ≡ filled_ok (entries_each size) partly (used_in b)
  told = ef ∙ ap (filled_ok (entries_each size) partly) eu

  module _ (right : seen ≡ false) where
    -- the rest: the unused bytes, and the sum
    as_rest : frame_ok kind size number partly b ≡ (all_zero (unused_of size b) && sum_ok b)
    unfolding frame_ok
    as_rest =
        let p = neither_of (not (eqb (kind_of b) kind) || not (eqb n number)) (not full) right in
        let q = neither_of (not (eqb (kind_of b) kind)) (not (eqb n number)) p.0 in
        rw (← en, ← told, not-false (eqb (kind_of b) kind) q.0, not-false (eqb n number) q.1, not-false full p.1)

    module _ (from : ℕ) (long : length b ≡ block_size) (whole : size % word_size ≡ 0) (ew : from ≡ place_in_block size used / word_size) where
      unused : all_zero (unused_of size b) ≡ zero_from b from
      unused = let place : word_size * from ≡ place_in_block size used = ap (λ (w : ℕ). word_size * w) ew ∙ ends size used whole in rw (place, eu)

      pub wrong_rest : (z : Bool) → z ≡ zero_from b from → z ≡ false → z ≡ frame_ok kind size number partly b
      wrong_rest z e h = rw (as_rest, unused, ← e, h)

      module _ (bytes : (i : ℕ) → byte_at b i < 256) where
        -- no word is unused
        pub framed_full : (sum : ℕ) (x : Bool) → from ≡ switches_word → Alike sum (words b block_words) → x ≡ (ltb 0 sum && eqb (sum % right_sum) 0)
            → x ≡ frame_ok kind size number partly b
        framed_full sum x e es ex = rw (as_rest, unused, e, none_left b, sum_alike b bytes sum long es) ex

        -- those that are are zero
        pub framed_partly : (z : Bool) (sum : ℕ) (x : Bool) → z ≡ zero_from b from → z ≡ true → Alike sum (words b block_words)
            → x ≡ (ltb 0 sum && eqb (sum % right_sum) 0)
            → x ≡ frame_ok kind size number partly b
        framed_partly z sum x ez h es ex = let zeros : zero_from b from ≡ true = sym ez ∙ h in rw (as_rest, unused, zeros, sum_alike b bytes sum long es) ex
