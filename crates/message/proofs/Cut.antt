-- Laws of cutting a message into blocks: the list of blocks by its first, and induction over it.
use Prim.Native.Nat.{ℕ, zero, suc, ◌+◌, ◌-◌, ◌≤◌, ◌<◌}
use mathlib.Core.Path.{◌≡◌, refl, sym, ap, ◌∙◌}
use mathlib.Core.Bool.{true, false, ◌&&◌}
use mathlib.Core.List.{List, [], ◌∷◌}
use mathlib.Core.Logic.{⊎_elim}
use native.Mathlib.Omega.{arith}
use borrow.Author.Tests.{leb-true, eqb-true}
use lib.Dec.{leb, eqb}
use lib.ListN.{length, drop, length-drop}
use Rattle.wire.specs.Numbers.{byte_at, be16}
use Rattle.rows.proofs.Laws.{decided, both_of, one_of}
use Rattle.header.specs.Format.{standard, augmented}
use Rattle.message.specs.Blocks.{Placed, placed_at, begins, right_size, fits_in, blocks_by, blocks_from}
use Rattle.format.specs.declared.Format.{Format}
use Rattle.format.specs.Sizes.{Sound, augmented_least}

-- what is known of a block that begins
pub record Begun (F : Format) (rest : List ℕ) : Type 0 where
  pub least : augmented_least ≤ be16 rest 1
  pub inside : be16 rest 1 ≤ length rest
  pub standard_size : byte_at rest 0 ≡ standard → be16 rest 1 ≡ F.block

module _ {F : Format} (sound : Sound F) where
  pub size_right : (kind size : ℕ) → right_size F kind size ≡ true → (augmented_least ≤ size) × (kind ≡ standard → size ≡ F.block)
  size_right kind size e =
      ⊎_elim
      (λ h. let p = both_of (eqb kind standard) _ h in let q : size ≡ F.block = eqb-true _ _ p.1 in (omega arith, λ k. q))
      (λ h.
      let p = both_of (eqb kind augmented && leb augmented_least size) _ h in
      let q = both_of (eqb kind augmented) _ p.0 in
      let k : kind ≡ augmented = eqb-true _ _ q.0 in
      (leb-true _ _ q.1, λ l. absurd (omega arith)))
      (one_of (eqb kind standard && eqb size F.block) _ e)

  pub begun : (rest : List ℕ) → begins F rest ≡ true → Begun F rest
  unfolding begins fits_in
  begun rest e =
      let p = both_of (right_size F (byte_at rest 0) (be16 rest 1)) _ e in
      let r = size_right (byte_at rest 0) (be16 rest 1) p.0 in
      record { least = r.0; inside = leb-true _ _ p.1; standard_size = r.1 }

  -- where too little is left, no block begins
  pub too_short : (rest : List ℕ) → length rest < augmented_least → begins F rest ≡ false
  too_short rest h =
      ⊎_elim (λ e. absurd (omega (arith, (begun rest e).least, (begun rest e).inside))) (λ e. e) (decided (begins F rest))

  -- the blocks by their first
  none_by : (n at : ℕ) (rest : List ℕ) → begins F rest ≡ false → blocks_by F n at rest ≡ []
  unfolding blocks_by
  none_by zero at rest e = refl
  none_by (suc n) at rest e = rw e

  more_by : (n at : ℕ) (rest : List ℕ) → begins F rest ≡ true
      → blocks_by F (suc n) at rest ≡ placed_at at rest ∷ blocks_by F n (at + be16 rest 1) (drop (be16 rest 1) rest)
  unfolding blocks_by
  more_by n at rest e = rw e

  -- as many turns as there are bytes are enough
  turns_enough : (n m at : ℕ) (rest : List ℕ) → length rest ≤ n → length rest ≤ m → blocks_by F n at rest ≡ blocks_by F m at rest
  turns_enough zero m at rest h k =
      let e : begins F rest ≡ false = too_short rest (omega arith) in none_by zero at rest e ∙ sym (none_by m at rest e)
  turns_enough (suc n) zero at rest h k =
      let e : begins F rest ≡ false = too_short rest (omega arith) in none_by (suc n) at rest e ∙ sym (none_by zero at rest e)
  turns_enough (suc n) (suc m) at rest h k =
      ⊎_elim
      (λ e.
      let b = begun rest e in
      let size : ℕ = be16 rest 1 in
      let fewer : (t : ℕ) → length rest ≤ suc t → length (drop size rest) ≤ t =
      λ t l. rw (length-drop size rest) (omega (arith, b.least)) in
      more_by n at rest e
      ∙ ap (λ (l : List Placed). placed_at at rest ∷ l) (turns_enough n m (at + size) (drop size rest) (fewer n h) (fewer m k))
      ∙ sym (more_by m at rest e))
      (λ e. none_by (suc n) at rest e ∙ sym (none_by (suc m) at rest e))
      (decided (begins F rest))

  -- where no block begins there are none; else there is that one, and those behind it
  pub no_blocks_lem : (at : ℕ) (rest : List ℕ) → begins F rest ≡ false → blocks_from F at rest ≡ []
  unfolding blocks_from
  no_blocks_lem at rest e = none_by (length rest) at rest e

  pub block_first : (at : ℕ) (rest : List ℕ) → begins F rest ≡ true
      → blocks_from F at rest ≡ placed_at at rest ∷ blocks_from F (at + be16 rest 1) (drop (be16 rest 1) rest)
  unfolding blocks_from
  block_first at rest e =
      let b = begun rest e in
      let size : ℕ = be16 rest 1 in
      let n : ℕ = length rest - 1 in
      let one : length rest ≡ suc n = omega (arith, b.least, b.inside) in
      let left : length (drop size rest) ≤ n = rw (length-drop size rest) (omega (arith, b.least)) in
      ap (λ (t : ℕ). blocks_by F t at rest) one
      ∙ more_by n at rest e
      ∙ ap (λ (l : List Placed). placed_at at rest ∷ l)
      (turns_enough n (length (drop size rest)) (at + size) (drop size rest) left (omega arith))

  -- induction over the blocks: from what stands behind the first block to the whole
  module _
      (P : ℕ → List ℕ → Type 0)
      (ends : (at : ℕ) (rest : List ℕ) → begins F rest ≡ false → P at rest)
      (goes_on : (at : ℕ) (rest : List ℕ) → begins F rest ≡ true → P (at + be16 rest 1) (drop (be16 rest 1) rest) → P at rest)
    where
      by_turns : (n at : ℕ) (rest : List ℕ) → length rest ≤ n → P at rest
      by_turns zero at rest h = ends at rest (too_short rest (omega arith))
      by_turns (suc n) at rest h =
          ⊎_elim
          (λ e.
          let b = begun rest e in
          goes_on at rest e (by_turns n (at + be16 rest 1) (drop (be16 rest 1) rest) (rw (length-drop (be16 rest 1) rest) (omega (arith, b.least)))))
          (ends at rest)
          (decided (begins F rest))

      pub by_blocks : (at : ℕ) (rest : List ℕ) → P at rest
      by_blocks at rest = by_turns (length rest) at rest (omega arith)
