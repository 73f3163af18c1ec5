-- Sums that the test of a sum does not tell apart: how they are joined, and a 64-bit sum with its carry among them.
use Rattle.std.proofs.Common.{◌≡◌, ℕ, zero, suc, ◌+◌, ◌*◌, ◌/◌, ◌%◌, ◌<◌, true, false, ◌&&◌, eqb, ltb, List, sym, refl, ◌∙◌, add-one, arith, ltb-true, lt-ltb, eq-eqb, eqb-true}
use native.Mathlib.Numerals.{add-two}
use Rattle.rows.proofs.Laws.{same_flag, both_true, both_of}
use Rattle.block.specs.Sum.{right_sum}
use Rattle.std.specs.Int.{from_bool}
use Rattle.memory.specs.Inside.{le, le32, le64}
use Rattle.block.specs.Inside.{word_size, past_word, past_long, words, Alike, SumsTo}
use Rattle.block.specs.declared.LongSum.{LongSum}

-- a sum that is more by a multiple of 0xFFFF
pub alike_less : (sum plain times : ℕ) → plain ≡ sum + right_sum * times → (0 < plain → 0 < sum) → Alike sum plain
alike_less sum plain times e some = record { over = times; under = 0; is = omega arith; some = some; only = λ h. omega arith }

pub alike_same : (sum plain : ℕ) → sum ≡ plain → Alike sum plain
alike_same sum plain e = alike_less sum plain 0 (omega arith) (λ h. omega arith)

pub alike_back : (a b : ℕ) → Alike a b → Alike b a
alike_back a b f = record { over = f.under; under = f.over; is = sym f.is; some = f.only; only = f.some }

pub alike_on : (a b c : ℕ) → Alike a b → Alike b c → Alike a c
alike_on a b c f g =
    record {
      over = f.over + g.over;
      under = f.under + g.under;
      is = omega arith;
      some = λ h. f.some (g.some h);
      only = λ h. g.only (f.only h);
    }

either_some : (a b c d : ℕ) → (0 < a → 0 < c) → (0 < b → 0 < d) → 0 < a + b → 0 < c + d
either_some zero b c d g k h = let l : 0 < d = k (omega arith) in omega arith
either_some (suc a) b c d g k h = let l : 0 < c = g (omega arith) in omega arith

pub alike_both : (a b c d : ℕ) → Alike a b → Alike c d → Alike (a + c) (b + d)
alike_both a b c d f g =
    record {
      over = f.over + g.over;
      under = f.under + g.under;
      is = omega arith;
      some = either_some b d a c f.some g.some;
      only = either_some a c b d f.only g.only;
    }

-- one way of the test
passes : (a b : ℕ) → Alike a b → (ltb 0 a && eqb (a % right_sum) 0) ≡ true → (ltb 0 b && eqb (b % right_sum) 0) ≡ true
passes a b f e =
    let q = both_of (ltb 0 a) (eqb (a % right_sum) 0) e in
    let l : 0 < b = f.only (ltb-true 0 a q.0) in
    let z : a % right_sum ≡ 0 = eqb-true (a % right_sum) 0 q.1 in
    both_true (ltb 0 b) (eqb (b % right_sum) 0) (lt-ltb 0 b l) (eq-eqb (b % right_sum) 0 (omega arith))

pub alike_test : (a b : ℕ) → Alike a b → (ltb 0 a && eqb (a % right_sum) 0) ≡ (ltb 0 b && eqb (b % right_sum) 0)
alike_test a b f =
    same_flag (ltb 0 a && eqb (a % right_sum) 0) (ltb 0 b && eqb (b % right_sum) 0) (passes a b f) (passes b a (alike_back a b f))

-- what is carried out of 64 bits counts once, but for a multiple of 0xFFFF
carry_once : (last carry sum : ℕ) → last + past_long * carry ≡ sum → Alike (last + carry) sum
carry_once last carry sum e = alike_less (last + carry) sum (281479271743489 * carry) (omega arith) (λ h. omega arith)

-- and so does what stands above 32 bits
high_once : (low high : ℕ) → Alike (low + high) (low + high * past_word)
high_once low high = alike_less (low + high) (low + high * past_word) (65537 * high) (omega arith) (λ h. omega arith)

pub folded_long : (sum last carry : ℕ) → sum ≡ last / past_word + last % past_word + carry → Alike sum (last + carry)
folded_long sum last carry e = alike_less sum (last + carry) (65537 * (last / past_word)) (omega arith) (λ h. omega arith)

-- two words more, as one of 64 bits
words_two : (b : List ℕ) (i : ℕ) → words b (i + 2) ≡ words b i + (le32 b (word_size * i) + le32 b (word_size * (i + 1)))
unfolding words
words_two b i = rw (add-two, add-one) (omega arith)

-- a long word is two words
long_word : (b : List ℕ) (i : ℕ) → le64 b (word_size * i) ≡ le32 b (word_size * i) + le32 b (word_size * (i + 1)) * past_word
unfolding le
long_word b i = let next : word_size * i + 4 ≡ word_size * (i + 1) = omega arith in rw next refl

pub two_more : (b : List ℕ) (i long : ℕ) (s r : LongSum) → SumsTo b i s → long ≡ le64 b (word_size * i)
    → r.words + past_long * from_bool r.carry ≡ s.words + from_bool s.carry + long
    → SumsTo b (i + 2) r
two_more b i long s r f d is =
    let sum : ℕ = s.words + from_bool s.carry in
    let low : ℕ = le32 b (word_size * i) in
    let high : ℕ = le32 b (word_size * (i + 1)) in
    let halves : long ≡ low + high * past_word = d ∙ long_word b i in
    record {
      alike =
          alike_on (r.words + from_bool r.carry) (sum + long) (words b (i + 2)) (carry_once r.words (from_bool r.carry) (sum + long) is)
          (alike_on (sum + long) (words b i + (low + high)) (words b (i + 2))
          (alike_both sum (words b i) long (low + high) f.alike (rw halves (alike_back (low + high) (low + high * past_word) (high_once low high))))
          (alike_same (words b i + (low + high)) (words b (i + 2)) (sym (words_two b i))));
    }

-- no word yet
pub none_summed : (b : List ℕ) → SumsTo b 0 (record { words = 0; carry = false })
unfolding words
none_summed b = record { alike = alike_same 0 0 refl }

pub summed_to : (b : List ℕ) (m n : ℕ) (s : LongSum) → SumsTo b m s → m ≡ n → SumsTo b n s
summed_to b m n s f e = rw (← e) f
