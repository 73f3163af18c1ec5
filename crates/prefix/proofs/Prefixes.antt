-- The first bits in which two addresses agree, by the leading zeros of their difference: over the width of an address.
use Prim.Native.Nat.{ℕ, suc, ◌*◌, ◌/◌, ◌-◌, ◌^◌, ◌≤◌, ◌<◌}
use mathlib.Core.Path.{◌≡◌, sym, ap, ◌∙◌}
use native.Mathlib.Omega.{arith}
use native.Mathlib.Nat.{lt_of_not-le, div-eq_of_lt, mod-lt, pow-suc}
use lib.Pow.{pow_pos, pow_mono, split}
use lib.Bits.{bit_xor, and_le_l, and_le_r, xor_add_and, xor_lt, xor_self, xor_shr}
use lib.Count.{count_leading_zeros, leading_length}
use lib.Dec.{leb, ltb, eqb}
use borrow.Author.Tests.{leb-true, le-leb, ltb-true, lt-ltb, eqb-true, eq-eqb}
use Rattle.rows.proofs.Laws.{same_flag}

-- a number of w bits begins with n zeros where the w - n others hold it
leading_held : (w n x : ℕ) → n ≤ w → x < 2 ^ w → leb n (count_leading_zeros w x) ≡ ltb x (2 ^ (w - n))
leading_held w n x h k =
    let z : ℕ = count_leading_zeros w x in
    let l = leading_length w x k in
    same_flag (leb n z) (ltb x (2 ^ (w - n)))
    (λ t. let some = leb-true n z t in let held : 2 ^ l.0 ≤ 2 ^ (w - n) = pow_mono (omega arith) in lt-ltb x (2 ^ (w - n)) (omega arith))
    (λ t.
    let held = ltb-true x (2 ^ (w - n)) t in
    let enough : n < suc z =
    lt_of_not-le (λ (few : suc z ≤ n). let over : 2 ^ suc (w - n) ≤ 2 ^ l.0 = pow_mono (omega arith) in omega (arith, pow-suc 2 (w - n))) in
    le-leb n z (omega arith))

-- numbers that differ in no bit are one
differ_nowhere : (a b : ℕ) → bit_xor a b ≡ 0 → a ≡ b
differ_nowhere a b e = omega (arith, xor_add_and a b, and_le_l a b, and_le_r a b)

-- k bits hold the difference of two numbers where all above them agree
differ_held : (a b k : ℕ) → ltb (bit_xor a b) (2 ^ k) ≡ eqb (a / 2 ^ k) (b / 2 ^ k)
differ_held a b k =
    let x : ℕ = bit_xor a b in
    same_flag (ltb x (2 ^ k)) (eqb (a / 2 ^ k) (b / 2 ^ k))
    (λ t. eq-eqb (a / 2 ^ k) (b / 2 ^ k) (differ_nowhere (a / 2 ^ k) (b / 2 ^ k) (sym (xor_shr a b k) ∙ div-eq_of_lt (ltb-true x (2 ^ k) t))))
    (λ t.
    let none : x / 2 ^ k ≡ 0 = xor_shr a b k ∙ rw (eqb-true (a / 2 ^ k) (b / 2 ^ k) t) (xor_self (b / 2 ^ k)) in
    lt-ltb x (2 ^ k) (omega (arith, split x k, mod-lt x (pow_pos k), ap (λ (q : ℕ). q * 2 ^ k) none)))

-- two numbers of w bits agree in the first n where their difference begins with so many zeros; with the bits of an address for w the right side
-- is `same_prefix`
pub leading_agree : (w n a b : ℕ) → n ≤ w → a < 2 ^ w → b < 2 ^ w → leb n (count_leading_zeros w (bit_xor a b)) ≡ eqb (a / 2 ^ (w - n)) (b / 2 ^ (w - n))
leading_agree w n a b h ha hb = leading_held w n (bit_xor a b) h (xor_lt w a b ha hb) ∙ differ_held a b (w - n)
