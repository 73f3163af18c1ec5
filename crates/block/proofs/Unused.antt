-- Unused bytes by an OR of their words: it is 0 where they are all zero.
use Rattle.std.proofs.Common.{◌≡◌, ℕ, zero, suc, ◌+◌, ◌-◌, ◌*◌, ◌<◌, ◌≤◌, Bool, true, ◌&&◌, eqb, List, length, sym, refl, ap, ◌∙◌, arith, ne_eqb}
use mathlib.Core.Bool.{and-true, and_assoc}
use lib.Bits.{bit_or}
use Rattle.wire.specs.Numbers.{byte_at}
use Rattle.memory.specs.Inside.{le32}
use Rattle.wire.proofs.Laws.{or_none}
use Rattle.memory.proofs.Laws.{le32_is}
use Rattle.wire.specs.Parts.{all_zero}
use Rattle.block.specs.Block.{block_size, switches_at}
use Rattle.block.specs.Inside.{word_size, switches_word, zero_from}
use Rattle.block.proofs.Sums.{four}

-- a sum by weights is 0 where its terms are
weighed : (k x y : ℕ) → 0 < k → eqb (k * x + y) 0 ≡ (eqb x 0 && eqb y 0)
weighed k zero y h = let e : k * 0 + y ≡ y = omega arith in rw e
weighed k (suc x) y h = ne_eqb (k * suc x + y) 0 (λ e. omega arith) ∙ rw (ne_eqb (suc x) 0 (λ e. omega arith))

-- so a word is 0 where its bytes are
word_none : (b : List ℕ) (at : ℕ)
    → eqb (le32 b at) 0 ≡ (eqb (byte_at b at) 0 && (eqb (byte_at b (at + 1)) 0 && (eqb (byte_at b (at + 2)) 0 && (eqb (byte_at b (at + 3)) 0 && true))))
word_none b at =
    let split : le32 b at ≡ 1 * byte_at b at + (256 * byte_at b (at + 1) + (65536 * byte_at b (at + 2) + (16777216 * byte_at b (at + 3) + 0))) = omega (arith, le32_is b at) in
    rw (
      split,
      weighed 1 (byte_at b at) _ (omega arith),
      weighed 256 (byte_at b (at + 1)) _ (omega arith),
      weighed 65536 (byte_at b (at + 2)) _ (omega arith),
      weighed 16777216 (byte_at b (at + 3)) 0 (omega arith),
    )

-- the words from i on are zero where word i is, and those after it
front : (b : List ℕ) (i : ℕ) → length b ≡ block_size → i < switches_word → zero_from b i ≡ (eqb (le32 b (word_size * i)) 0 && zero_from b (i + 1))
unfolding all_zero
front b i long h =
    let at : ℕ = word_size * i in
    let n : ℕ = switches_at - word_size * (i + 1) in
    let bytes : switches_at - at ≡ suc (suc (suc (suc n))) = omega arith in
    let next : at + word_size ≡ word_size * (i + 1) = omega arith in
    rw (bytes, four b at (omega arith), next, word_none b at) (simp (and_assoc, and-true))

-- the loop: what was seen so far and what is left say together what is asked
pub zeros_more : (b : List ℕ) (from some i w : ℕ) → length b ≡ block_size → i < switches_word → w ≡ le32 b (word_size * i)
    → (eqb some 0 && zero_from b i) ≡ zero_from b from → (eqb (bit_or some w) 0 && zero_from b (i + 1)) ≡ zero_from b from
zeros_more b from some i w long h e so_far =
    rw (or_none some w) (and_assoc (eqb some 0) (eqb w 0) (zero_from b (i + 1)) ∙ rw (e, ← front b i long h) so_far)

pub none_left : (b : List ℕ) → zero_from b switches_word ≡ true
unfolding all_zero
none_left b = refl

pub zeros_all : (b : List ℕ) (from some i : ℕ) → i ≤ switches_word → switches_word ≤ i → (eqb some 0 && zero_from b i) ≡ zero_from b from → eqb some 0 ≡ zero_from b from
zeros_all b from some i h k so_far =
    let q : i ≡ switches_word = omega arith in
    sym (and-true (eqb some 0)) ∙ ap (λ (t : Bool). eqb some 0 && t) (sym (ap (zero_from b) q ∙ none_left b)) ∙ so_far
