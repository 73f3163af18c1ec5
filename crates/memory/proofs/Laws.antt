-- Laws of numbers in memory's order, each stated once for every width: what is read is bytes, and whether two numbers have a bit in
-- common does not mind the order of bytes.
use Prim.Native.Nat.{ℕ, zero, suc, ◌+◌, ◌*◌, ◌/◌, ◌%◌, ◌^◌, ◌<◌}
use mathlib.Core.Path.{◌≡◌, refl, sym, ap, ◌∙◌}
use mathlib.Core.List.{List, ◌++◌}
use native.Mathlib.Omega.{arith}
use native.Mathlib.Nat.{add_assoc, zero-add, add-zero, pow-suc, mod-lt, div-lt_iff_lt-mul, one-le-pow, add_comm, zero-mul, suc-mul, mul-suc}
use lib.Pow.{pow-add, pow_pos}
use lib.Arith.{digits_lt}
use lib.Bits.{bit_and, and_block}
use mathlib.Core.Bool.{Bool, true, false, ◌&&◌}
use borrow.Author.Tests.{ne_eqb}
use lib.Dec.{eqb, lit≤}
use lib.ListN.{length, get_or-append}
use lib.Seq.{get_or-append-add}
use Rattle.wire.specs.Numbers.{byte_at, be, bytes}
use Rattle.memory.specs.Inside.{le, le32, octets}
use Rattle.wire.proofs.Laws.{double, base_double, length-bytes}

-- a number in memory's order, by the weights of its bytes
pub le32_is : (s : List ℕ) (at : ℕ) → le32 s at ≡ (byte_at s at + byte_at s (at + 1) * 256) + (byte_at s (at + 2) * 65536 + byte_at s (at + 3) * 16777216)
unfolding le
le32_is s at = let last : at + 2 + 1 ≡ at + 3 = omega arith in let p : byte_at s (at + 2 + 1) ≡ byte_at s (at + 3) = rw last in omega arith

-- the bytes of a number are bytes
octets_same : (d : ℕ) (s t : List ℕ) (i j : ℕ) → ((k : ℕ) → k < 2 ^ d → byte_at s (i + k) ≡ byte_at t (j + k)) → octets d t j → octets d s i
unfolding octets
octets_same zero s t i j f o = let e : byte_at s i ≡ byte_at t j = rw (add-zero, add-zero) at (f 0 (omega arith)) in rw e o
octets_same (suc d) s t i j f o = (
  octets_same d s t i j (λ k h. f k (omega (arith, double d))) o.0,
  octets_same d s t (i + 2 ^ d) (j + 2 ^ d) (λ k h. rw (← add_assoc, ← add_assoc) at (f (2 ^ d + k) (omega (arith, double d)))) o.1,
)

pub octets_bytes : (d v : ℕ) → v < 256 ^ (2 ^ d) → octets d (bytes d v) 0
unfolding octets bytes
octets_bytes zero v h = h
octets_bytes (suc d) v h =
    let B : ℕ = 256 ^ (2 ^ d) in
    let pos : 0 < B = one-le-pow (2 ^ d) 256 (lit≤ tt) in
    let hi : List ℕ = bytes d (v / B) in
    let lo : List ℕ = bytes d (v % B) in
    let above : v / B < B = (div-lt_iff_lt-mul pos).1 (rw base_double at h) in (
      octets_same d (hi ++ lo) hi 0 0
          (λ k l. get_or-append hi lo 0 (0 + k) (omega (arith, length-bytes d (v / B))))
          (octets_bytes d (v / B) above),
      octets_same d (hi ++ lo) lo (0 + 2 ^ d) 0
          (λ k l.
          let e : 0 + 2 ^ d + k ≡ length hi + (0 + k) = omega (arith, length-bytes d (v / B)) in
          ap (λ (n : ℕ). byte_at (hi ++ lo) n) e ∙ get_or-append-add hi lo (0 + k) 0)
          (octets_bytes d (v % B) (mod-lt v pos)),
    )

-- a base of bytes as a power of two
base_bits : (n : ℕ) → 256 ^ n ≡ 2 ^ (8 * n)
base_bits zero = refl
base_bits (suc n) =
    pow-suc 256 n ∙ ap (λ (x : ℕ). x * 256) (base_bits n) ∙ sym (ap (λ (x : ℕ). 2 ^ x) (mul-suc 8 n) ∙ pow-add 2 (8 * n) 8)

-- numbers of bytes are below their base, in either order
joined : (x y B : ℕ) → x < B → y < B → x * B + y < B * B
joined x y B h k = digits_lt h k

pub be_lt : (d : ℕ) (s : List ℕ) (at : ℕ) → octets d s at → be d s at < 256 ^ (2 ^ d)
unfolding octets be
be_lt zero s at o = o
be_lt (suc d) s at o =
    rw base_double
    (joined (be d s at) (be d s (at + 2 ^ d)) (256 ^ (2 ^ d)) (be_lt d s at o.0) (be_lt d s (at + 2 ^ d) o.1))

le_lt : (d : ℕ) (s : List ℕ) (at : ℕ) → octets d s at → le d s at < 256 ^ (2 ^ d)
unfolding octets le
le_lt zero s at o = o
le_lt (suc d) s at o =
    rw (base_double, add_comm (le d s at) (le d s (at + 2 ^ d) * 256 ^ (2 ^ d)))
    (joined (le d s (at + 2 ^ d)) (le d s at) (256 ^ (2 ^ d)) (le_lt d s (at + 2 ^ d) o.1) (le_lt d s at o.0))

-- a sum by weights is zero where both parts are
parts_zero : (x y B : ℕ) → 0 < B → eqb (x * B + y) 0 ≡ (eqb x 0 && eqb y 0)
parts_zero zero y B h = rw (zero-mul, zero-add)
parts_zero (suc x) y B h =
    rw (ne_eqb (suc x) 0 (λ e. omega arith))
    (ne_eqb (suc x * B + y) 0 (λ e. let p : suc x * B ≡ x * B + B = suc-mul x B in omega arith))

both_orders : (t u : Bool) → (t && u) ≡ (u && t)
both_orders true true = refl
both_orders true false = refl
both_orders false true = refl
both_orders false false = refl

-- the bits that two numbers have in common, by halves
common : (n x y u v B : ℕ) → B ≡ 2 ^ n → y < B → v < B → eqb (bit_and (x * B + y) (u * B + v)) 0 ≡ (eqb (bit_and x u) 0 && eqb (bit_and y v) 0)
common n x y u v B e h k =
    let joint : bit_and (x * B + y) (u * B + v) ≡ bit_and x u * B + bit_and y v =
    rw e (and_block n x u y v (rw e at h) (rw e at k)) in
    rw joint (parts_zero (bit_and x u) (bit_and y v) B (rw e (pow_pos n)))

-- whether two numbers have a bit in common does not mind the order of bytes
pub same_common : (d : ℕ) (s t : List ℕ) (at b : ℕ) → octets d s at → octets d t b
    → eqb (bit_and (le d s at) (le d t b)) 0 ≡ eqb (bit_and (be d s at) (be d t b)) 0
unfolding octets le be
same_common zero s t at b o q = refl
same_common (suc d) s t at b o q =
    let B : ℕ = 256 ^ (2 ^ d) in
    let n : ℕ = 8 * 2 ^ d in
    let e : B ≡ 2 ^ n = base_bits (2 ^ d) in
    let first = same_common d s t at b o.0 q.0 in
    let second = same_common d s t (at + 2 ^ d) (b + 2 ^ d) o.1 q.1 in
    rw (add_comm (le d s at) (le d s (at + 2 ^ d) * B), add_comm (le d t b) (le d t (b + 2 ^ d) * B))
    (common n (le d s (at + 2 ^ d)) (le d s at) (le d t (b + 2 ^ d)) (le d t b) B e (le_lt d s at o.0) (le_lt d t b q.0)
    ∙ rw (first, second) (both_orders (eqb (bit_and (be d s (at + 2 ^ d)) (be d t (b + 2 ^ d))) 0) (eqb (bit_and (be d s at) (be d t b)) 0))
    ∙ sym
    (common n (be d s at) (be d s (at + 2 ^ d)) (be d t b) (be d t (b + 2 ^ d)) B e (be_lt d s (at + 2 ^ d) o.1) (be_lt d t (b + 2 ^ d) q.1)))
