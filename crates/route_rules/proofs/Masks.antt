-- Shifts and masks: the bits of a map that no interface has.
use Prim.Native.Nat.{ℕ, ◌+◌, ◌*◌, ◌/◌, ◌-◌, ◌^◌, ◌≤◌, ◌<◌}
use mathlib.Core.List.{List}
use mathlib.Core.Path.{◌≡◌, ap, ◌∙◌}
use native.Mathlib.Omega.{arith}
use native.Mathlib.Nat.{zero-mul, div-eq_of_lt, mod-lt}
use lib.Pow.{pow_pos, shr_mod, split, pow-sub-lt}
use lib.Bits.{bit_and, and_high}
use lib.Dec.{eqb}
use borrow.Author.Tests.{lt-ltb, ltb-true, eq-eqb, eqb-true}
use Rattle.rows.proofs.Laws.{same_flag}
use Rattle.wire.specs.Numbers.{be64, bytes64}
use Rattle.memory.specs.Inside.{le64, octets}
use Rattle.wire.proofs.Laws.{be-bytes}
use Rattle.memory.proofs.Laws.{be_lt, octets_bytes, same_common}
use Rattle.interface.specs.Interface.{most_interfaces}
use Rattle.route_rules.specs.Rules.{map_ok}
use Rattle.route_rules.specs.Inside.{outside_map}

-- a map that has none of them
none_high : (n map : ℕ) → n ≤ most_interfaces → map < 2 ^ 64 → eqb (bit_and map (2 ^ 64 - 2 ^ n)) 0 ≡ map_ok n map
none_high n map h k =
    let j : ℕ = 64 - n in
    let P : ℕ = 2 ^ n in
    let pos : 0 < P = pow_pos n in
    let whole : 64 ≡ j + n = omega arith in
    let back : j + n ≡ 64 = omega arith in
    let left : bit_and map (2 ^ 64 - P) ≡ map / P * P =
    ap (λ (w : ℕ). bit_and map (2 ^ w - P)) whole ∙ and_high map j n ∙ ap (λ (x : ℕ). x * P) (shr_mod j n (rw back k)) in
    rw left
    (same_flag (eqb (map / P * P) 0) (map_ok n map)
    (λ t. let z : map / P * P ≡ 0 = eqb-true (map / P * P) 0 t in let w = split map n in let l = mod-lt map pos in lt-ltb map P (omega arith))
    (λ t. let z : map / P ≡ 0 = div-eq_of_lt (ltb-true map P t) in eq-eqb (map / P * P) 0 (rw z (zero-mul P))))

pub map_outside : (n bits m : ℕ) (s : List ℕ) (at : ℕ) → n ≤ most_interfaces → bits ≡ outside_map n → m ≡ le64 s at → octets 3 s at
    → eqb (bit_and m bits) 0 ≡ map_ok n (be64 s at)
map_outside n bits m s at h e f o =
    let v : ℕ = 2 ^ 64 - 2 ^ n in
    let fits : v < 2 ^ 64 = pow-sub-lt 64 (pow_pos n) in
    rw (e, f)
    (same_common 3 s (bytes64 v) at 0 o (octets_bytes 3 v fits)
    ∙ ap (λ (x : ℕ). eqb (bit_and (be64 s at) x) 0) (be-bytes 3 v fits)
    ∙ none_high n (be64 s at) h (be_lt 3 s at o))
