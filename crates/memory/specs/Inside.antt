-- Inside: what only the contracts of inner functions cite, here and in the crates above. No entry's promise rests on it, and a reader of the definitions may pass it over.
-- Here: numbers in memory's order, for tests that do not mind the order of bytes.
use Rattle.std.specs.Prelude.{ℕ, zero, suc, ◌+◌, ◌*◌, ◌^◌, ◌<◌, List}
use Rattle.wire.specs.Numbers.{byte_at}

-- the number of 2 ^ d bytes that begins at a place, where the first counts least
unfoldable pub le : ℕ → List ℕ → ℕ → ℕ
le zero s at = byte_at s at
le (suc d) s at = le d s at + le d s (at + 2 ^ d) * 256 ^ (2 ^ d)

-- of 32 bits
abbrev pub le32 : List ℕ → ℕ → ℕ
le32 = le 2

-- of 64 bits
abbrev pub le64 : List ℕ → ℕ → ℕ
le64 = le 3

-- each of the 2 ^ d that begin at a place is a byte: below 256
unfoldable pub octets : ℕ → List ℕ → ℕ → Type 0
octets zero s at = byte_at s at < 256
octets (suc d) s at = octets d s at × octets d s (at + 2 ^ d)
