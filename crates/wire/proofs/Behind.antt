-- Numbers that are written one behind the other from a place of a slice on are one part of it.
use Prim.Native.Nat.{ℕ, ◌+◌, ◌^◌, ◌≤◌}
use mathlib.Core.Path.{◌≡◌}
use mathlib.Core.List.{List, ◌++◌}
use native.Mathlib.Omega.{arith}
use lib.ListN.{length, length-append}
use Rattle.wire.specs.Numbers.{bytes}
use Rattle.wire.specs.Parts.{splice}
use Rattle.wire.proofs.Laws.{length-bytes, splice_join}

-- what is written right behind a first part is one part with it
behind : (s t u xs ys : List ℕ) (at n : ℕ) → length xs ≡ n → at + n ≤ length s → t ≡ splice s at xs → u ≡ splice t (at + n) ys → u ≡ splice s at (xs ++ ys)
behind s t u xs ys at n l h e f = let e0 : at + n ≡ at + length xs = omega arith in rw (f, e, e0) (splice_join s at xs (omega arith) ys)

longer : (d v n : ℕ) (xs : List ℕ) → length xs ≡ n → length (xs ++ bytes d v) ≡ n + 2 ^ d
longer d v n xs l = rw (length-append, l, length-bytes d v)

-- two, three and four numbers of 2 ^ d bytes
module _ (d at v w : ℕ) (s s1 s2 : List ℕ) (first : s1 ≡ splice s at (bytes d v)) (second : s2 ≡ splice s1 (at + 2 ^ d) (bytes d w)) where
  two_written : at + 2 ^ d ≤ length s → s2 ≡ splice s at (bytes d v ++ bytes d w)
  two_written h = behind s s1 s2 (bytes d v) (bytes d w) at (2 ^ d) (length-bytes d v) h first second

  module _ (x : ℕ) (s3 : List ℕ) (third : s3 ≡ splice s2 (at + (2 ^ d + 2 ^ d)) (bytes d x)) where
    pub three_written : at + (2 ^ d + 2 ^ d) ≤ length s → s3 ≡ splice s at (bytes d v ++ bytes d w ++ bytes d x)
    three_written h =
        behind s s2 s3 (bytes d v ++ bytes d w) (bytes d x) at (2 ^ d + 2 ^ d) (longer d w (2 ^ d) (bytes d v) (length-bytes d v)) h
        (two_written (omega arith)) third

    pub four_written : (y : ℕ) (s4 : List ℕ) → s4 ≡ splice s3 (at + (2 ^ d + 2 ^ d + 2 ^ d)) (bytes d y) → at + (2 ^ d + 2 ^ d + 2 ^ d) ≤ length s
        → s4 ≡ splice s at (bytes d v ++ bytes d w ++ bytes d x ++ bytes d y)
    four_written y s4 fourth h =
        behind s s3 s4 (bytes d v ++ bytes d w ++ bytes d x) (bytes d y) at (2 ^ d + 2 ^ d + 2 ^ d)
        (longer d x (2 ^ d + 2 ^ d) (bytes d v ++ bytes d w) (longer d w (2 ^ d) (bytes d v) (length-bytes d v))) h
        (three_written (omega arith)) fourth
