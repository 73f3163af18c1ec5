-- Laws of numbers in bytes and of replaced parts, each stated once for every width: what was written is read back, and
-- the bytes outside stay.
use Prim.Native.Nat.{ℕ, zero, suc, ◌+◌, ◌*◌, ◌/◌, ◌%◌, ◌^◌, ◌-◌, ◌≤◌, ◌<◌}
use mathlib.Core.Path.{◌≡◌, refl, sym, ap, ◌∙◌}
use mathlib.Core.List.{List, ◌++◌, append_assoc}
use native.Mathlib.Omega.{arith}
use native.Mathlib.Nat.{add_assoc, zero-add, add-zero, pow-suc, mod-lt, div-add-mod', div-lt_iff_lt-mul, one-le-pow, mul_comm}
use lib.Pow.{pow-add}
use lib.Bits.{bit_and, bit_or, and_le_r, or_add_and}
use Rattle.std.proofs.lemmas.Nat.Bits.{and_pow}
use mathlib.Core.Bool.{true, ◌&&◌, not}
use borrow.Author.Tests.{leb-true, eqb-true, ne_eqb}
use lib.Dec.{leb, eqb, lit≤}
use lib.ListN.{length, take, drop, length-append, length-drop, get_or-append}
use lib.Seq.{take_at, drop_at, drop-drop, get_or-take, get_or-drop, get_or-append-add, length-take-le}
use Rattle.rows.proofs.Laws.{both_of}
use Rattle.wire.specs.Numbers.{byte_at, be, bytes}
use Rattle.wire.specs.Parts.{part, splice, whole_parts}

-- an OR is 0 exactly where both are
pub or_none : (a b : ℕ) → eqb (bit_or a b) 0 ≡ (eqb a 0 && eqb b 0)
or_none zero b = refl
or_none (suc a) b =
    rw (ne_eqb (bit_or (suc a) b) 0 (λ e. omega (arith, or_add_and (suc a) b, and_le_r (suc a) b)), ne_eqb (suc a) 0 (λ e. omega arith))

-- a mask of one bit finds that bit: the second of a byte of flags
pub second_flag : (n : ℕ) → not (eqb (bit_and n 2) 0) ≡ eqb (n / 2 % 2) 1
second_flag n = grind (arith, and_pow n 1)

-- the powers that widths bring
pub double : (d : ℕ) → 2 ^ suc d ≡ 2 ^ d + 2 ^ d
double d = omega (arith, pow-suc 2 d)

pub base_double : (d : ℕ) → 256 ^ (2 ^ suc d) ≡ 256 ^ (2 ^ d) * 256 ^ (2 ^ d)
base_double d = ap (λ (n : ℕ). 256 ^ n) (double d) ∙ pow-add 256 (2 ^ d) (2 ^ d)

pub length-bytes : (d v : ℕ) → length (bytes d v) ≡ 2 ^ d
unfolding bytes
length-bytes zero v = refl
length-bytes (suc d) v =
    rw (length-append, length-bytes d (v / 256 ^ (2 ^ d)), length-bytes d (v % 256 ^ (2 ^ d))) (sym (double d))

length_bytes_front : (d v : ℕ) → 0 + 2 ^ d ≡ length (bytes d v) + 0
length_bytes_front d v = omega (arith, length-bytes d v)

-- two lists that agree on the bytes of a number hold the same number
pub be_same : (d : ℕ) (s t : List ℕ) (i j : ℕ) → ((k : ℕ) → k < 2 ^ d → byte_at s (i + k) ≡ byte_at t (j + k)) → be d s i ≡ be d t j
unfolding be
be_same zero s t i j f = rw (add-zero, add-zero) at (f 0 (omega arith))
be_same (suc d) s t i j f =
    rw (
      be_same d s t i j (λ k h. f k (omega (arith, double d))),
      be_same d s t (i + 2 ^ d) (j + 2 ^ d) (λ k h. rw (← add_assoc, ← add_assoc) at (f (2 ^ d + k) (omega (arith, double d)))),
    )

-- the number that a list of bytes holds inside a part of it
pub be-part : (d : ℕ) (s : List ℕ) (at n j : ℕ) → j + 2 ^ d ≤ n → be d (part at n s) j ≡ be d s (at + j)
be-part d s at n j h =
    be_same d (part at n s) s j (at + j)
    (λ k l. let b : j + k < n = omega arith in rw (get_or-take, get_or-drop, ← add_assoc))

splice_is : (s : List ℕ) (at : ℕ) (xs : List ℕ) → splice s at xs ≡ take at s ++ xs ++ drop (at + length xs) s
unfolding splice
splice_is s at xs = refl

-- and behind so many bytes of it
pub be-drop : (d : ℕ) (s : List ℕ) (n j : ℕ) → be d (drop n s) j ≡ be d s (n + j)
be-drop d s n j = be_same d (drop n s) s j (n + j) (λ k h. rw (get_or-drop, ← add_assoc))

-- a part replaced
module _ (s : List ℕ) (at : ℕ) (xs : List ℕ) (fits : at + length xs ≤ length s) where
  length_front : length (take at s) ≡ at
  length_front = length-take-le at s (omega arith)

  length_head : length (take at s ++ xs) ≡ at + length xs
  length_head = simp (length-append, length_front)

  pub length-splice : length (splice s at xs) ≡ length s
  unfolding splice
  length-splice = simp (length-append, length_front, length-drop) (omega arith)

  -- the bytes before, within and after it
  pub byte_before : (j : ℕ) → j < at → byte_at (splice s at xs) j ≡ byte_at s j
  unfolding splice
  byte_before j h =
      get_or-append (take at s ++ xs) (drop (at + length xs) s) 0 j (omega (arith, length_head))
      ∙ get_or-append (take at s) xs 0 j (omega (arith, length_front))
      ∙ get_or-take at s j 0 h

  byte_within : (j : ℕ) → j < length xs → byte_at (splice s at xs) (at + j) ≡ byte_at xs j
  unfolding splice
  byte_within j h =
      get_or-append (take at s ++ xs) (drop (at + length xs) s) 0 (at + j) (omega (arith, length_head))
      ∙ ap (λ (n : ℕ). byte_at (take at s ++ xs) (n + j)) (sym length_front)
      ∙ get_or-append-add (take at s) xs j 0

  pub byte_after : (j : ℕ) → at + length xs ≤ j → byte_at (splice s at xs) j ≡ byte_at s j
  unfolding splice
  byte_after j h =
      let k : ℕ = j - (at + length xs) in
      let e : j ≡ at + length xs + k = omega arith in
      rw e
      (ap (λ (n : ℕ). byte_at (take at s ++ xs ++ drop (at + length xs) s) (n + k)) (sym length_head)
      ∙ get_or-append-add (take at s ++ xs) (drop (at + length xs) s) k 0
      ∙ get_or-drop (at + length xs) s k 0)

  -- the number within and after it
  pub be_within : (d j : ℕ) → j + 2 ^ d ≤ length xs → be d (splice s at xs) (at + j) ≡ be d xs j
  be_within d j h =
      be_same d (splice s at xs) xs (at + j) j (λ k l. rw add_assoc (byte_within (j + k) (omega arith)))

  pub be-after : (d j : ℕ) → at + length xs ≤ j → be d (splice s at xs) j ≡ be d s j
  be-after d j h = be_same d (splice s at xs) s j j (λ k l. byte_after (j + k) (omega arith))

  -- what is taken up to its end, and what is left behind it
  take-splice : take (at + length xs) (splice s at xs) ≡ take at s ++ xs
  unfolding splice
  take-splice = take_at (take at s ++ xs) (drop (at + length xs) s) (at + length xs) length_head

  pub drop-splice : drop (at + length xs) (splice s at xs) ≡ drop (at + length xs) s
  unfolding splice
  drop-splice = drop_at (take at s ++ xs) (drop (at + length xs) s) (at + length xs) length_head

  -- a second part right behind the first: together they are one
  pub splice_join : (ys : List ℕ) → splice (splice s at xs) (at + length xs) ys ≡ splice s at (xs ++ ys)
  splice_join ys =
      rw (
        splice_is (splice s at xs) (at + length xs) ys,
        take-splice,
        ← drop-drop (length ys) (at + length xs) (splice s at xs),
        drop-splice,
        drop-drop (length ys) (at + length xs) s,
        splice_is s at (xs ++ ys),
        length-append xs ys,
      )
      (simp (append_assoc, add_assoc))

-- from the front, what is replaced is a beginning
pub splice_front : (s xs : List ℕ) → splice s 0 xs ≡ xs ++ drop (length xs) s
unfolding splice
splice_front s xs = rw zero-add

-- a number within the first of two lists, or within the second
pub be_first : (d : ℕ) (a b : List ℕ) (j : ℕ) → j + 2 ^ d ≤ length a → be d (a ++ b) j ≡ be d a j
be_first d a b j h = be_same d (a ++ b) a j j (λ k l. get_or-append a b 0 (j + k) (omega arith))

pub be_second : (d : ℕ) (a b : List ℕ) (j : ℕ) → be d (a ++ b) (length a + j) ≡ be d b j
be_second d a b j = be_same d (a ++ b) b (length a + j) j (λ k l. rw add_assoc (get_or-append-add a b (j + k) 0))

-- the bytes of a number hold it
pub be-bytes : (d v : ℕ) → v < 256 ^ (2 ^ d) → be d (bytes d v) 0 ≡ v
unfolding be bytes
be-bytes zero v h = refl
be-bytes (suc d) v h =
    let B : ℕ = 256 ^ (2 ^ d) in
    let pos : 0 < B = one-le-pow (2 ^ d) 256 (lit≤ tt) in
    let hi : List ℕ = bytes d (v / B) in
    let lo : List ℕ = bytes d (v % B) in
    let above : v / B < B = (div-lt_iff_lt-mul pos).1 (rw base_double at h) in
    rw (
      be_first d hi lo 0 (omega (arith, length-bytes d (v / B))),
      be-bytes d (v / B) above,
      ap (λ (n : ℕ). be d (hi ++ lo) n) (length_bytes_front d (v / B)),
      be_second d hi lo 0,
      be-bytes d (v % B) (mod-lt v pos),
    )
    (div-add-mod' v B)

-- what a size of whole parts is
pub record Wholes (each most size : ℕ) : Type 0 where
  pub whole : size ≡ each * (size / each)
  pub some : 1 ≤ size / each
  pub few : size / each ≤ most

pub wholes : (each most size : ℕ) → whole_parts each most size ≡ true → Wholes each most size
wholes each most size e =
    let p = both_of (eqb (size % each) 0 && leb 1 (size / each)) (leb (size / each) most) e in
    let q = both_of (eqb (size % each) 0) (leb 1 (size / each)) p.0 in
    let none : size % each ≡ 0 = eqb-true (size % each) 0 q.0 in
    let all = div-add-mod' size each in
    record { whole = sym all ∙ rw (none, add-zero) (mul_comm (size / each) each); some = leb-true 1 (size / each) q.1; few = leb-true (size / each) most p.1 }
