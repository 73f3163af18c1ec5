-- Inside: what only the contracts of this crate's own functions cite. No entry's promise rests on it, and a reader of the definitions may pass it over.
-- Here: a block's 32-bit words in memory's order, by whose plain sum, or one like it, the code finds the sum of RFC 1071.
use Rattle.std.specs.Prelude.{◌≡◌, ℕ, zero, suc, ◌+◌, ◌-◌, ◌*◌, ◌/◌, ◌<◌, Bool, List}
use Rattle.std.specs.Int.{from_bool}
use Rattle.memory.specs.Inside.{le32}
use Rattle.wire.specs.Parts.{part, all_zero}
use Rattle.block.specs.Sum.{right_sum}
use Rattle.block.specs.Block.{block_size, switches_at}
use Rattle.block.specs.declared.LongSum.{LongSum}

-- bytes of a word
abbrev pub word_size : ℕ
word_size = 4

-- one more than the largest word
abbrev pub past_word : ℕ
past_word = 4294967296

-- one more than the largest 64-bit word
abbrev pub past_long : ℕ
past_long = past_word * past_word

-- the words of a block
abbrev pub block_words : ℕ
block_words = block_size / word_size

-- the word in which its switches stand
abbrev pub switches_word : ℕ
switches_word = switches_at / word_size

-- the plain sum of the first n words
unfoldable pub words : List ℕ → ℕ → ℕ
words b zero = 0
words b (suc n) = words b n + le32 b (word_size * n)

-- the words from one on, up to the switches, are zero
abbrev pub zero_from : List ℕ → ℕ → Bool
zero_from b from = all_zero (part (word_size * from) (switches_at - word_size * from) b)

-- two sums that the test of a sum does not tell apart: they differ by multiples of 0xFFFF, and neither is 0 alone
pub record Alike (sum plain : ℕ) : Type 0 where
  pub over : ℕ
  pub under : ℕ
  pub is : sum + right_sum * over ≡ plain + right_sum * under
  pub some : 0 < plain → 0 < sum
  pub only : 0 < sum → 0 < plain

-- a long sum of the first n words: with its carry it is like their plain sum
pub record SumsTo (b : List ℕ) (n : ℕ) (s : LongSum) : Type 0 where
  pub alike : Alike (s.words + from_bool s.carry) (words b n)
