-- A part of a list of bytes: cut out, replaced, or all zero.
use Rattle.std.specs.Prelude.{ℕ, ◌+◌, ◌/◌, ◌%◌, Bool, true, ◌&&◌, List, [], ◌∷◌, ◌++◌, leb, eqb, length, take, drop, replicate}

-- the n bytes that begin at a place
abbrev pub part : ℕ → ℕ → List ℕ → List ℕ
part at n s = take n (drop at s)

-- s with xs in the place of the bytes that begin at a place; all other bytes stay
unfoldable pub splice : List ℕ → ℕ → List ℕ → List ℕ
splice s at xs = take at s ++ xs ++ drop (at + length xs) s

-- a size is that of 1 to `most` whole parts of `each` bytes
abbrev pub whole_parts : ℕ → ℕ → ℕ → Bool
whole_parts each most size = eqb (size % each) 0 && leb 1 (size / each) && leb (size / each) most

-- every byte is zero
unfoldable pub all_zero : List ℕ → Bool
all_zero [] = true
all_zero (byte ∷ rest) = eqb byte 0 && all_zero rest

-- so many zeros
unfoldable pub blank : ℕ → List ℕ
blank n = replicate n 0
