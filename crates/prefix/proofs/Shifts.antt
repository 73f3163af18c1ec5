-- Shifts: the bits of an address past a length.
use Prim.Native.Nat.{ℕ, ◌+◌, ◌*◌, ◌%◌, ◌-◌, ◌^◌, ◌≤◌, ◌<◌}
use mathlib.Core.Bool.{Bool, true, false, cond}
use mathlib.Core.Path.{◌≡◌, refl, sym, ap, ◌∙◌}
use native.Mathlib.Omega.{arith}
use native.Mathlib.Nat.{zero-mul, mul-mod_left, eq_of_mul-eq-mul_right}
use lib.Pow.{pow_pos, shl-shr, mod-pow-add}
use lib.Dec.{eqb, ltb}
use borrow.Author.Tests.{eq-eqb, ne_eqb, eqb-true, eqb-false, ltb-true, ltb-false}
use Rattle.prefix.specs.Prefix.{address_bits, hosts, zero_past}

-- two tests that hold together are the same test
pub same_test : (a b c d : ℕ) → (a ≡ b → c ≡ d) → (c ≡ d → a ≡ b) → eqb a b ≡ eqb c d
same_test a b c d f g = by_flag (eqb a b) refl where
  by_flag : (t : Bool) → eqb a b ≡ t → eqb a b ≡ eqb c d
  by_flag true e = e ∙ sym (eq-eqb c d (f (eqb-true a b e)))
  by_flag false e = e ∙ sym (ne_eqb c d (λ q. eqb-false a b e (g q)))

-- past all of an address there is no bit
none_past : (bits a : ℕ) → address_bits ≤ bits → true ≡ zero_past bits a
unfolding zero_past hosts
none_past bits a h = let e : address_bits - bits ≡ 0 = omega arith in rw e (sym (eq-eqb (a % 1) 0 (omega arith)))

-- shifted up by so many bits, an address leaves of itself in 32 bits what stands past them
some_past : (bits a : ℕ) → bits < address_bits → eqb (a * 2 ^ bits % 2 ^ address_bits) 0 ≡ zero_past bits a
unfolding zero_past hosts
some_past bits a h =
    let j : ℕ = address_bits - bits in
    let n : ℕ = a * 2 ^ bits in
    let whole : address_bits ≡ j + bits = omega arith in
    let left : n % 2 ^ address_bits ≡ a % 2 ^ j * 2 ^ bits =
    ap (λ (w : ℕ). n % 2 ^ w) whole ∙ mod-pow-add n j bits ∙ rw (shl-shr a bits, mul-mod_left a (2 ^ bits)) (omega arith) in
    let some : 0 < 2 ^ bits = pow_pos bits in
    rw left
    (same_test (a % 2 ^ j * 2 ^ bits) 0 (a % 2 ^ j) 0
    (λ e. eq_of_mul-eq-mul_right (2 ^ bits) some (a % 2 ^ j) 0 (e ∙ sym (zero-mul (2 ^ bits))))
    (λ e. ap (λ (m : ℕ). m * 2 ^ bits) e ∙ zero-mul (2 ^ bits)))

-- the test of the shift, for every length
pub shifted_past : (bits a : ℕ) → eqb (cond (ltb bits 32) (a * 2 ^ bits % 2 ^ 32) 0) 0 ≡ zero_past bits a
shifted_past bits a = by_flag (ltb bits 32) refl where
  by_flag : (t : Bool) → ltb bits 32 ≡ t → eqb (cond t (a * 2 ^ bits % 2 ^ 32) 0) 0 ≡ zero_past bits a
  by_flag true e = some_past bits a (ltb-true bits 32 e)
  by_flag false e = none_past bits a (ltb-false bits 32 e)
