-- The sum of RFC 1071: 16-bit words, big-endian, added with end-around carry.
use Rattle.std.specs.Prelude.{ℕ, ◌+◌, ◌*◌, ◌/◌, ◌%◌, Bool, List, [], ◌∷◌, ◌==◌}

-- what the words of a block give: 0xFFFF
abbrev pub right_sum : ℕ
right_sum = 65535

-- end-around carry: what an addition carries out of 16 bits is added at the low end
unfoldable pub carried : ℕ → ℕ
carried t = t % 65536 + t / 65536

-- a sum so far and the words of a list of bytes; a last odd byte is followed by a zero
unfoldable pub sum_from : ℕ → List ℕ → ℕ
sum_from sum [] = sum
sum_from sum (a ∷ []) = carried (sum + a * 256)
sum_from sum (a ∷ b ∷ rest) = sum_from (carried (sum + (a * 256 + b))) rest

-- the words, summed with end-around carry, give that
unfoldable pub sum_ok : List ℕ → Bool
sum_ok b = sum_from 0 b == right_sum
