-- The plain sum of the 32-bit words in memory's order, joined to the sum of RFC 1071: end-around carry takes multiples of 0xFFFF
-- away, and so the order of bytes does not matter.
use Rattle.std.proofs.Common.{◌≡◌, ℕ, zero, suc, ◌+◌, ◌-◌, ◌*◌, ◌/◌, ◌%◌, ◌<◌, ◌≤◌, ◌&&◌, eqb, ltb, List, ◌∷◌, length, drop, refl, ap, ◌∙◌, add-one, arith, drop_of_length-le, drop-cons, ltb-true, lt-ltb, eq-eqb, eqb-true}
use native.Mathlib.Nat.{mul-mod_left}
use native.Mathlib.Numerals.{add-two, add-three, add-four}
use Rattle.wire.specs.Numbers.{byte_at}
use Rattle.memory.specs.Inside.{le32}
use Rattle.memory.proofs.Laws.{le32_is}
use Rattle.block.specs.Sum.{right_sum, carried, sum_from, sum_ok}
use Rattle.block.specs.Block.{block_size}
use Rattle.block.specs.Inside.{word_size, block_words, words, Alike}
use Rattle.rows.proofs.Laws.{same_flag, both_true, both_of}
use Rattle.block.proofs.Alike.{alike_less, alike_same, alike_on, alike_both, alike_test}

-- four bytes at the front of what is left
pub four : (b : List ℕ) (at : ℕ) → at + word_size ≤ length b
    → drop at b ≡ byte_at b at ∷ byte_at b (at + 1) ∷ byte_at b (at + 2) ∷ byte_at b (at + 3) ∷ drop (at + word_size) b
four b at h =
    rw (drop-cons b at 0 (omega arith), drop-cons b (suc at) 0 (omega arith), drop-cons b (suc (suc at)) 0 (omega arith), drop-cons b (suc (suc (suc at))) 0 (omega arith))
    (simp (add-one, add-two, add-three, add-four))

-- a sum with end-around carry beside the plain one
record Folded (sum plain : ℕ) : Type 0 where
  most : sum ≤ right_sum
  alike : Alike sum plain

folded_more : (sum plain w : ℕ) → Folded sum plain → w < 65536 → Folded (carried (sum + w)) (plain + w)
unfolding carried
folded_more sum plain w f h =
    record {
      most = omega arith;
      alike =
          alike_on (carried (sum + w)) (sum + w) (plain + w) (alike_less (carried (sum + w)) (sum + w) ((sum + w) / 65536) (omega arith) (λ k. omega arith))
          (alike_both sum plain w w f.alike (alike_same w w refl));
    }

-- two words of 16 bits more, and what is a multiple of 0xFFFF more than they are
folded-word : (sum plain high low more times : ℕ) → Folded sum plain → high < 65536 → low < 65536 → more ≡ high + low + right_sum * times
    → (0 < more → 0 < high + low)
    → Folded (carried (carried (sum + high) + low)) (plain + more)
folded-word sum plain high low more times f h l e some =
    let g = folded_more (carried (sum + high)) (plain + high) low (folded_more sum plain high f h) l in
    let last : ℕ = carried (carried (sum + high) + low) in
    record {
      most = g.most;
      alike =
          alike_on last (plain + high + low) (plain + more) g.alike
          (alike_on (plain + high + low) (plain + (high + low)) (plain + more) (alike_same (plain + high + low) (plain + (high + low)) (omega arith))
          (alike_both plain plain (high + low) more (alike_same plain plain refl) (alike_less (high + low) more times e some)));
    }

-- so it is 0xFFFF where the plain one is a multiple of it, and not 0
folded_test : (sum plain : ℕ) → Folded sum plain → eqb sum right_sum ≡ ltb 0 plain && eqb (plain % right_sum) 0
folded_test sum plain f =
    same_flag (eqb sum right_sum) (ltb 0 sum && eqb (sum % right_sum) 0)
    (λ e. let q : sum ≡ right_sum = eqb-true sum right_sum e in
    both_true (ltb 0 sum) (eqb (sum % right_sum) 0) (lt-ltb 0 sum (omega arith)) (eq-eqb (sum % right_sum) 0 (omega arith)))
    (λ e. let q = both_of (ltb 0 sum) (eqb (sum % right_sum) 0) e in
    let l : 0 < sum = ltb-true 0 sum q.0 in
    let z : sum % right_sum ≡ 0 = eqb-true (sum % right_sum) 0 q.1 in
    let m : sum ≤ right_sum = f.most in
    eq-eqb sum right_sum (omega arith))
    ∙ alike_test sum plain f.alike

-- 256 is prime to 0xFFFF
times_256 : (w : ℕ) → (ltb 0 (256 * w) && eqb (256 * w % right_sum) 0) ≡ (ltb 0 w && eqb (w % right_sum) 0)
times_256 w =
    same_flag (ltb 0 (256 * w) && eqb (256 * w % right_sum) 0) (ltb 0 w && eqb (w % right_sum) 0)
    (λ e. let q = both_of (ltb 0 (256 * w)) (eqb (256 * w % right_sum) 0) e in
    let l : 0 < 256 * w = ltb-true 0 (256 * w) q.0 in
    let z : 256 * w % right_sum ≡ 0 = eqb-true (256 * w % right_sum) 0 q.1 in
    let t : ℕ = 256 * w / right_sum in
    let once : w ≡ (256 * t - w) * right_sum = omega arith in
    both_true (ltb 0 w) (eqb (w % right_sum) 0) (lt-ltb 0 w (omega arith))
    (eq-eqb (w % right_sum) 0 (ap (λ (n : ℕ). n % right_sum) once ∙ mul-mod_left (256 * t - w) right_sum)))
    (λ e. let q = both_of (ltb 0 w) (eqb (w % right_sum) 0) e in
    let l : 0 < w = ltb-true 0 w q.0 in
    let z : w % right_sum ≡ 0 = eqb-true (w % right_sum) 0 q.1 in
    let once : 256 * w ≡ (256 * (w / right_sum)) * right_sum = omega arith in
    both_true (ltb 0 (256 * w)) (eqb (256 * w % right_sum) 0) (lt-ltb 0 (256 * w) (omega arith))
    (eq-eqb (256 * w % right_sum) 0 (ap (λ (n : ℕ). n % right_sum) once ∙ mul-mod_left (256 * (w / right_sum)) right_sum)))

-- the sum so far, of the first n words of 32 bits: how it goes on, and what it is of their plain sum. With its bytes in the other
-- order each 16-bit word counts 256 times, but for multiples of 0xFFFF
record Summed (b : List ℕ) (n : ℕ) : Type 0 where
  sum : ℕ
  along : sum_from 0 b ≡ sum_from sum (drop (word_size * n) b)
  folded : Folded sum (256 * words b n)

module _ (b : List ℕ) (bytes : (i : ℕ) → byte_at b i < 256) where
  half : (i : ℕ) → byte_at b i * 256 + byte_at b (i + 1) < 65536
  half i = omega (arith, bytes i, bytes (i + 1))

  summed_more : (n : ℕ) → word_size * n + word_size ≤ length b → Summed b n → Summed b (suc n)
  unfolding sum_from words
  summed_more n h p =
      let at : ℕ = word_size * n in
      let high : ℕ = byte_at b at * 256 + byte_at b (at + 1) in
      let low : ℕ = byte_at b (at + 2) * 256 + byte_at b (at + 3) in
      let more : ℕ = 256 * le32 b at in
      let weights = le32_is b at in
      let times : ℕ = byte_at b (at + 1) + 256 * byte_at b (at + 2) + 65537 * byte_at b (at + 3) in
      let e : word_size * suc n ≡ at + word_size = omega arith in
      let all : 256 * words b (suc n) ≡ 256 * words b n + more = omega arith in
      let last : byte_at b (at + 2 + 1) ≡ byte_at b (at + 3) = let q : at + 2 + 1 ≡ at + 3 = omega arith in ap (byte_at b) q in
      record {
        sum = carried (carried (p.sum + high) + low);
        along = p.along ∙ rw (e, four b at h);
        folded =
            rw all
            (folded-word p.sum (256 * words b n) high low more times p.folded (half at) (rw last at (half (at + 2))) (omega arith) (λ k. omega arith));
      }

  summed : (n : ℕ) → word_size * n ≤ length b → Summed b n
  unfolding sum_from words
  summed zero h = record { sum = 0; along = refl; folded = record { most = omega arith; alike = alike_same 0 0 refl } }
  summed (suc n) h = summed_more n (omega arith) (summed n (omega arith))

  -- the sum with end-around carry of a block is 0xFFFF where their plain sum, or one like it, is a multiple of it, and not 0
  pub sum_alike : (w : ℕ) → length b ≡ block_size → Alike w (words b block_words) → sum_ok b ≡ ltb 0 w && eqb (w % right_sum) 0
  unfolding sum_ok sum_from
  sum_alike w long f =
      let p = summed block_words (omega arith) in
      rw (p.along, drop_of_length-le b {i = block_size} (omega arith), alike_test w (words b block_words) f)
      (folded_test p.sum (256 * words b block_words) p.folded ∙ times_256 (words b block_words))
