-- Numbers in bytes, big-endian, as messages, sheets and records hold them. One definition for every width: `d` stands
-- for a width of 2 ^ d bytes, so 0, 1, 2 and 3 for 8, 16, 32 and 64 bits.
use Rattle.std.specs.Prelude.{ℕ, zero, suc, ◌+◌, ◌*◌, ◌/◌, ◌%◌, ◌^◌, List, [], ◌∷◌, ◌++◌, get_or}

-- the byte at a place; 0 past the end
abbrev pub byte_at : List ℕ → ℕ → ℕ
byte_at s at = get_or s at 0

-- the number of 2 ^ d bytes that begins at a place: its first half, then its second
unfoldable pub be : ℕ → List ℕ → ℕ → ℕ
be zero s at = byte_at s at
be (suc d) s at = be d s at * 256 ^ (2 ^ d) + be d s (at + 2 ^ d)

-- the 2 ^ d bytes of a number: those of its first half, then those of its second
unfoldable pub bytes : ℕ → ℕ → List ℕ
bytes zero v = v ∷ []
bytes (suc d) v = bytes d (v / 256 ^ (2 ^ d)) ++ bytes d (v % 256 ^ (2 ^ d))

-- the number of 16 bits that begins at a place
abbrev pub be16 : List ℕ → ℕ → ℕ
be16 = be 1

-- of 32 bits
abbrev pub be32 : List ℕ → ℕ → ℕ
be32 = be 2

-- of 64 bits
abbrev pub be64 : List ℕ → ℕ → ℕ
be64 = be 3

-- the bytes of a number of 16 bits
abbrev pub bytes16 : ℕ → List ℕ
bytes16 = bytes 1

-- of 32 bits
abbrev pub bytes32 : ℕ → List ℕ
bytes32 = bytes 2

-- of 64 bits
abbrev pub bytes64 : ℕ → List ℕ
bytes64 = bytes 3
