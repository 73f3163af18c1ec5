-- What a copy leaves: bytes copied one by one are a part.
use Prim.Native.Nat.{ℕ, ◌+◌, ◌≤◌, ◌<◌}
use mathlib.Core.Path.{◌≡◌, ◌∙◌}
use mathlib.Core.List.{List}
use native.Mathlib.Omega.{arith}
use native.Mathlib.Numerals.{add-one}
use lib.ListN.{length, set}
use lib.Seq.{paste, paste-suc, take-length}
use Rattle.wire.specs.Numbers.{byte_at}
use Rattle.wire.specs.Parts.{splice}

-- copying byte by byte: after j bytes the destination is the old one with the first j pasted in
pub copied_more : (d s l : List ℕ) (at j : ℕ) → l ≡ paste d at s j → at + length s ≤ length d → j < length s
    → set l (at + j) (byte_at s j) ≡ paste d at s (j + 1)
copied_more d s l at j e h k = rw (e, add-one) (paste-suc d at s j 0 (omega arith) k)

pub copied_all : (d s l : List ℕ) (at j : ℕ) → l ≡ paste d at s j → j ≤ length s → length s ≤ j → l ≡ splice d at s
unfolding splice
copied_all d s l at j e h k = let q : j ≡ length s = omega arith in e ∙ rw (q, take-length)
