-- The interface blocks that stand first are all of them: in a valid sheet, and where every block keeps its rules with as many.
use Prim.Native.Nat.{ℕ, zero, suc, ◌+◌, ◌*◌, ◌/◌, ◌-◌, ◌≤◌, ◌<◌}
use mathlib.Core.Bool.{Bool, true, false}
use mathlib.Core.List.{List}
use mathlib.Core.Logic.{⊎_elim, ◌↔◌}
use mathlib.Core.Path.{◌≡◌, refl, sym, ◌∙◌}
use native.Mathlib.Omega.{arith}
use native.Mathlib.Nat.{eq-or-lt_of_le}
use lib.Dec.{ltb, eqb}
use lib.ListN.{length, get_or}
use borrow.Author.Tests.{lt-ltb, le-ltb, eq-eqb, ne_eqb, eqb-true, ltb-true, ltb-false}
use Rattle.rows.proofs.Laws.{decided, parts}
use Rattle.wire.specs.Numbers.{byte_at}
use Rattle.block.specs.Block.{block_size, kind_of, frame_ok}
use Rattle.format.specs.declared.Format.{Format}
use Rattle.sheet_block.specs.Every.{every}
use Rattle.sheet_block.specs.Rules.{interface_kind, route_kind, interface_right, route_right, block_ok}
use Rattle.sheet.specs.Sheet.{blocks, sheet_block, interface_blocks_in, interface_blocks, interfaces_in, interface_block_ok, route_block_ok, block_ok_with}
use Rattle.sheet.specs.Inside.{Leading, in_run}
use Rattle.sheet_block.proofs.Laws.{every_one, every_is}
use Rattle.sheet.proofs.Valid.{Valid}
use Rattle.std.specs.List.{IsSubsliceAt}
use Rattle.std.proofs.lemmas.Bool.{cases_lt}
use Rattle.std.specs.Prelude.{IsTrue, Option, Some, None, is_some, option_map, IfSome, MatchOption}

-- the blocks before k are interface blocks
abbrev FirstOnes : List ℕ → ℕ → Type 0
FirstOnes s k = (j : ℕ) → j < k → kind_of (sheet_block s j) ≡ interface_kind

-- Chunks of the size of a block, `at` by number, of which those that pass were taken up to the first that does not: m of them, `took` by
-- number. They are the interface blocks that stand first.
module _ (s : List ℕ) {X : Type 0} (now : X → List ℕ) (at took : ℕ → Option X) (m n : ℕ) (Yes No : X → Type 0)
    (yes' : (x : X) → Yes x → byte_at (now x) 0 ≡ interface_kind) (no' : (x : X) → No x → byte_at (now x) 0 ≡ interface_kind → ⊥) where
  taken : (k : ℕ) (o : Option X) → is_some o ≡ true → IfSome o Yes → IfSome o (λ x. now x ≡ sheet_block s k) → kind_of (sheet_block s k) ≡ interface_kind
  taken k None e y w = cc
  taken k (Some x) e y w = rw w at (yes' x y)

  left : (whole : Bool) (o : Option X) → (whole ≡ true → n ≡ blocks s) → MatchOption o ((whole ≡ true) × (n ≡ m)) No → IfSome o (λ x. now x ≡ sheet_block s m)
      → m < blocks s → kind_of (sheet_block s m) ≡ interface_kind → ⊥
  left whole None all f w l z = omega (arith, all f.0, f.1)
  left whole (Some x) all f w l z = no' x f (rw w z)

  chunk_is : (size : ℕ) (bytes : List ℕ) (k : ℕ) (o : Option X) → size ≡ block_size → bytes ≡ s
      → IfSome o (λ x. (length (now x) ≡ size) × (k * size + size ≤ length bytes) × IsSubsliceAt size bytes (k * size) (now x)) → IfSome o (λ x. now x ≡ sheet_block s k)
  chunk_is size bytes k None e f h = h
  chunk_is size bytes k (Some x) e f h = let q : k * block_size ≡ block_size * k = omega arith in rw (e, f, q) at h.2.0

  some_at : (o : Option X) (x : X) → option_map (λ y. y) o ≡ Some x → is_some o ≡ true
  some_at None x e = cc
  some_at (Some y) x e = refl

  pub leading_chunks : (size : ℕ) (bytes : List ℕ) (whole : Bool) (items : List X) (d : X) → size ≡ block_size → bytes ≡ s
      → (n * size ≤ length bytes) × (whole ≡ true → n ≡ length bytes / size)
      × ((k : ℕ) → IfSome (at k) (λ x. (length (now x) ≡ size) × (k * size + size ≤ length bytes) × IsSubsliceAt size bytes (k * size) (now x)))
      → m ≤ n → ((k : ℕ) → k < m → at k ≡ took k) → ((k : ℕ) (d : X) → k < m → option_map (λ y. y) (took k) ≡ Some (get_or items k d))
      → ((k : ℕ) → IfSome (took k) Yes) → MatchOption (at m) ((whole ≡ true) × (n ≡ m)) No → Leading s (blocks s) m
  leading_chunks size bytes whole items d e f chunks few same read y stop =
      let is : (k : ℕ) → IfSome (at k) (λ x. now x ≡ sheet_block s k) = λ k. chunk_is size bytes k (at k) e f (chunks.2 k) in
      record {
        within = omega (arith, rw (e, f) at chunks.0);
        first = λ k h. taken k (took k) (some_at (took k) _ (read k d h)) (y k) (rw (same k h) at (is k));
        next = left whole (at m) (λ w. rw (e, f) at (chunks.1 w)) stop (is m);
      }

-- where there are m interface blocks, the first m are to keep the rules of those, and each behind them those of a route block
module _ (F : Format) (s : List ℕ) (m interfaces : ℕ) where
  at_first : (k : ℕ) → k < m → block_ok_with F s m interfaces k ≡ in_run interface_kind F.interface (interface_right F) s m k
  unfolding block_ok_with interface_block_ok
  at_first k h = rw (lt-ltb k m h)

  at_rest : (k : ℕ) → m ≤ k → block_ok_with F s m interfaces k ≡ in_run route_kind F.route (route_right interfaces) s (blocks s) k
  unfolding block_ok_with route_block_ok
  at_rest k h = rw (le-ltb k m h)

  module _ (x : Bool) (first : IsTrue x ↔ ((k : ℕ) → 0 ≤ k → k < m → in_run interface_kind F.interface (interface_right F) s m k ≡ true)) where
    pub first_broken : x ≡ false → m ≤ blocks s → x ≡ every (block_ok_with F s m interfaces) (blocks s)
    first_broken e within =
        every_is (block_ok_with F s m interfaces) x (blocks s) ((λ t. cc), (λ each. first.1 (λ k l h. sym (at_first k h) ∙ each k (omega arith))))

    pub first_kept : (y : Bool) (size n : ℕ) → x ≡ true → m ≤ blocks s → size ≡ F.route → n ≡ interfaces
        → IsTrue y ↔ ((k : ℕ) → m ≤ k → k < blocks s → in_run route_kind size (route_right n) s (blocks s) k ≡ true)
        → y ≡ every (block_ok_with F s m interfaces) (blocks s)
    first_kept y size n e within ez en rest =
        let rest' = rw (ez, en) at rest in
        every_is (block_ok_with F s m interfaces) y (blocks s) (
          (λ t k h.
              ⊎_elim (λ (l : k < m). at_first k l ∙ first.0 e k (omega arith) l) (λ (l : m ≤ k). at_rest k l ∙ rest'.0 t k l h) (cases_lt k m)),
          (λ each. rest'.1 (λ k l h. sym (at_rest k l) ∙ each k h)),
        )

-- blocks that are all counted, and blocks of which none is
all_counted : (s : List ℕ) (n : ℕ) → FirstOnes s n → interface_blocks_in s n ≡ n
unfolding interface_blocks_in
all_counted s zero first = refl
all_counted s (suc n) first = rw (all_counted s n (λ j h. first j (omega arith)), eq-eqb _ interface_kind (first n (omega arith))) (omega arith)

none_counted : (s : List ℕ) (m n : ℕ) → ((k : ℕ) → m ≤ k → k < m + n → kind_of (sheet_block s k) ≡ interface_kind → ⊥)
    → interface_blocks_in s (m + n) ≡ interface_blocks_in s m
unfolding interface_blocks_in
none_counted s m zero none = let e : m + 0 ≡ m = omega arith in rw e
none_counted s m (suc n) none =
    let e : m + suc n ≡ suc (m + n) = omega arith in
    rw (e, ne_eqb (kind_of (sheet_block s (m + n))) interface_kind (none (m + n) (omega arith) (omega arith)))
    (let rest = none_counted s m n (λ k l h. none k l (omega arith)) in omega arith)

-- numbers of which neither is less
neither : (a b : ℕ) → (a < b → ⊥) → (b < a → ⊥) → a ≡ b
neither a b f g =
    ⊎_elim (λ e. absurd (f (ltb-true a b e))) (λ e. ⊎_elim sym (λ h. absurd (g h)) (eq-or-lt_of_le {n = b} {m = a} (ltb-false a b e))) (decided (ltb a b))

-- a block that keeps its rules has its kind
block_kind : (kind size number : ℕ) (right : List ℕ → ℕ → Bool) (partly : Bool) (b : List ℕ) → block_ok kind size right number partly b ≡ true → kind_of b ≡ kind
unfolding block_ok frame_ok
block_kind kind size number right partly b e = eqb-true (kind_of b) kind (search parts depth 8)

module _ (F : Format) (s : List ℕ) (m : ℕ) (lead : Leading s (blocks s) m) where
  -- every block keeps its rules: behind the first m there are route blocks alone
  pub leading_all : (interfaces : ℕ) → every (block_ok_with F s m interfaces) (blocks s) ≡ true → m ≡ interface_blocks s
  unfolding interface_blocks block_ok_with route_block_ok
  leading_all interfaces kept =
      let n : ℕ = blocks s - m in
      let e : blocks s ≡ m + n = omega (arith, lead.within) in
      rw e (sym (none_counted s m n (λ k l h z.
      let q = block_kind route_kind F.route k (route_right interfaces) (eqb (k + 1) (blocks s)) (sheet_block s k)
      (rw (le-ltb k m l) at (every_one (block_ok_with F s m interfaces) (blocks s) k kept (omega arith))) in
      omega arith) ∙ all_counted s m lead.first))

  -- the sheet is valid: the next block is no interface block, and each of the first is one
  pub leading_valid : Valid F s → m ≡ interface_blocks s
  unfolding block_ok_with interface_block_ok route_block_ok
  leading_valid v =
      let M : ℕ = interface_blocks s in
      neither m M
      (λ h.
      lead.next (omega (arith, v.within))
      (block_kind interface_kind F.interface m (interface_right F) (eqb (m + 1) M) (sheet_block s m) (rw (lt-ltb m M h) at (v.each m (omega (arith, v.within))))))
      (λ h.
      let q = block_kind route_kind F.route M (route_right (interfaces_in F s)) (eqb (M + 1) (blocks s)) (sheet_block s M) (rw (le-ltb M M (omega arith)) at (v.each M (omega (arith, lead.within)))) in
      omega (arith, lead.first M h))
