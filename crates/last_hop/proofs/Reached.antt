-- The proper last hop: one pass over the interfaces of the route's would-forward map.
use Prim.Native.Nat.{ℕ, zero, suc, ◌+◌, ◌*◌, ◌/◌, ◌%◌, ◌^◌, ◌≤◌, ◌<◌}
use mathlib.Core.Bool.{Bool, true, false, ◌&&◌, cond}
use mathlib.Core.List.{List}
use mathlib.Core.Path.{◌≡◌, refl, sym, ◌∙◌}
use mathlib.Core.Logic.{⊎_elim}
use native.Mathlib.Omega.{arith}
use native.Mathlib.Nat.{eq-or-lt_of_le, one-le-pow, pow-le-pow_right, div-lt_iff_lt-mul, div-eq_of_lt}
use native.Mathlib.Numerals.{add-one}
use lib.Dec.{eqb}
use borrow.Author.Tests.{eq-eqb, ne_eqb, eqb-true, eqb-false}
use Rattle.rows.proofs.Laws.{cond_cases}
use Rattle.format.specs.Sizes.{Sound}
use Rattle.format.specs.declared.Format.{Format}
use Rattle.prefix.specs.Prefix.{address_bits, same_prefix}
use Rattle.interface.specs.Interface.{most_interfaces, is_multicast}
use Rattle.interface.specs.declared.Interface.{Interface}
use Rattle.route_entry.specs.declared.Route.{Route}
use Rattle.interface.proofs.Laws.{interface_short}
use Rattle.sheet.specs.declared.Layout.{Layout}
use Rattle.sheet.specs.Sheet.{layout_of}
use Rattle.tables.specs.Tables.{interface_of}
use Rattle.sheet.proofs.Laws.{interface_few}
use Rattle.tables.proofs.Laws.{interface_keeps}
use Rattle.last_hop.specs.Inside.{reaches_by}
use Rattle.last_hop.specs.LastHop.{reaches, some_reaches}

-- an interface that the check counted is one of the sheet's, has a bit in every map, and is short enough for a prefix
module _ (F : Format) (s : List ℕ) (l : Layout) (layout : l ≡ layout_of F s) (k : ℕ) (h : k < l.interfaces) where
  pub counted : k < (layout_of F s).interfaces
  counted = rw layout at h

  pub bit_there : k < most_interfaces
  bit_there = interface_few F s k counted

  pub interface_short_enough : Sound F → (i : Interface) → i ≡ interface_of F s k → i.length ≤ address_bits
  interface_short_enough sound i read = rw read (interface_short F _ (interface_keeps sound s k counted))

-- a bit is set or clear
low_bit : (n : ℕ) (x y : Bool) → cond (eqb (n % 2) 0) false (x && y) ≡ x && eqb (n % 2) 1 && y
low_bit n true y =
    cond_cases (λ b. b ≡ eqb (n % 2) 1 && y) (eqb (n % 2) 0) false y
    (λ z. let q = eqb-true (n % 2) 0 z in rw (ne_eqb (n % 2) 1 (λ e. omega arith)))
    (λ z. let q = eqb-false (n % 2) 0 z in rw (eq-eqb (n % 2) 1 (omega arith)))
low_bit n false y = cond_cases (λ b. b ≡ false) (eqb (n % 2) 0) false false (λ z. refl) (λ z. refl)

-- an interface by the lowest bit of what is left of the map
pub bit_set : (F : Format) (s : List ℕ) (map client k : ℕ) (i : Interface) → i ≡ interface_of F s k → (x y : Bool) → (map % 2 ≡ 0 → ⊥) → x ≡ is_multicast i
    → y ≡ same_prefix i.length i.address client → x && y ≡ reaches_by map client (interface_of F s k)
unfolding reaches_by
bit_set F s map client k i read x y e f g = rw (ne_eqb (map % 2) 0 e, f, g, read)

-- where nothing is left, no later bit is set
none_left : (forward k i : ℕ) → forward / 2 ^ k ≡ 0 → k ≤ i → forward / 2 ^ i ≡ 0
none_left forward k i e h =
    let some : 0 < 2 ^ k = one-le-pow k 2 (omega arith) in
    let less : forward < 1 * 2 ^ k = (div-lt_iff_lt-mul some).0 (omega arith) in
    div-eq_of_lt (omega (arith, pow-le-pow_right {n = 2} (omega arith) h))

not_set : (x y : Bool) → x && false && y ≡ false
not_set true y = refl
not_set false y = refl

-- the pass: none of the first k interfaces reaches the client
module _ (F : Format) (s : List ℕ) (r : Route) (client : ℕ) where
  abbrev reached_by : ℕ → Bool
  reached_by k = reaches r client k (interface_of F s k)

  reaches-told : (k : ℕ) → reaches_by (r.forward / 2 ^ k) client (interface_of F s k) ≡ reached_by k
  unfolding reaches_by reaches
  reaches-told k =
      let i : Interface = interface_of F s k in
      low_bit (r.forward / 2 ^ k) (is_multicast i) (same_prefix i.length i.address client)

  reach_later : (n k : ℕ) → k < n → reached_by k ≡ true → some_reaches (interface_of F s) r client n ≡ true
  unfolding some_reaches
  reach_later zero k h e = absurd (omega arith)
  reach_later (suc n) k h e =
      ⊎_elim (λ (q : k ≡ n). rw (← q, e))
      (λ (q : k < n). cond_cases (λ b. b ≡ true) (reached_by n) true (some_reaches (interface_of F s) r client n) (λ z. refl) (λ z. reach_later n k q e))
      (eq-or-lt_of_le {n = k} {m = n} (omega arith))

  none_later : (n k : ℕ) → k ≤ n → some_reaches (interface_of F s) r client k ≡ false → ((i : ℕ) → k ≤ i → i < n → reached_by i ≡ false)
      → some_reaches (interface_of F s) r client n ≡ false
  unfolding some_reaches
  none_later zero k h e none = refl
  none_later (suc n) k h e none =
      ⊎_elim (λ (q : k ≡ suc n). rw q at e)
      (λ (q : k < suc n). rw (none n (omega arith) (omega arith)) (none_later n k (omega arith) e (λ i l m. none i l (omega arith))))
      (eq-or-lt_of_le {n = k} {m = suc n} h)

  module _ (l : Layout) (layout : l ≡ layout_of F s) (k : ℕ) (so_far : some_reaches (interface_of F s) r client k ≡ false) where
    pub reached : (x : Bool) → k < l.interfaces → x ≡ reaches_by (r.forward / 2 ^ k) client (interface_of F s k) → x ≡ true
        → true ≡ some_reaches (interface_of F s) r client (layout_of F s).interfaces
    reached x h told e = sym (reach_later _ k (rw layout at h) (sym (reaches-told k) ∙ sym told ∙ e))

    pub not_reached : (x : Bool) → x ≡ reaches_by (r.forward / 2 ^ k) client (interface_of F s k) → x ≡ false
        → some_reaches (interface_of F s) r client (k + 1) ≡ false
    unfolding some_reaches
    not_reached x told e = rw (add-one, ← (reaches-told k), ← told, e) so_far

    pub map_over : k < l.interfaces → r.forward / 2 ^ k ≡ 0 → false ≡ some_reaches (interface_of F s) r client (layout_of F s).interfaces
    unfolding reaches
    map_over h z =
        rw (← layout)
        (sym (none_later l.interfaces k (omega arith) so_far (λ i m n. rw (none_left r.forward k i z m) (not_set (is_multicast (interface_of F s i)) _))))
