-- The block that begins at a place, by what is read there: the ways out of `standard_at`, `augmented_at` and `block_at`.
use Prim.Native.Nat.{ℕ, ◌+◌, ◌-◌, ◌%◌, ◌≤◌, ◌<◌}
use mathlib.Core.Path.{◌≡◌, refl, sym, ap, ap₂, ◌∙◌}
use Rattle.std.specs.Prelude.{Some, None}
use mathlib.Core.Bool.{Bool, true, false, cond, ◌&&◌, and-true, and-false}
use mathlib.Core.List.{List}
use mathlib.Core.Logic.{⊎_elim}
use native.Mathlib.Omega.{arith}
use native.Mathlib.Nat.{add-zero}
use borrow.Author.Tests.{le-leb, lt-leb, eq-eqb, eqb-true}
use lib.Dec.{leb, eqb}
use lib.ListN.{length, drop, length-drop}
use lib.Seq.{get_or-drop}
use Rattle.std.proofs.lemmas.Option.{none-some, same_Some}
use Rattle.wire.specs.Numbers.{byte_at, be16}
use Rattle.rows.proofs.Laws.{decided, both_of, one_of, cond_cases, parts}
use Rattle.wire.proofs.Laws.{be-drop}
use Rattle.header.specs.Format.{standard, augmented, augmented_unit}
use Rattle.message.specs.Blocks.{begins, right_size, fits_in}
use Rattle.message.specs.Inside.{Head, no_block, is_standard, augmented_size, block_at}
use Rattle.message.proofs.Cut.{too_short}
use Rattle.format.specs.declared.Format.{Format}
use Rattle.format.specs.Sizes.{Sound, augmented_least}

-- a block of that type and that length
abbrev pub head : ℕ → ℕ → Head
head kind size = record { kind = kind; size = size }

module _ {F : Format} (sound : Sound F) where
  -- the block by the type and the length that stand there and the bytes that are left
  module _ (kind size left : ℕ) where
    abbrev head_in : Head
    head_in = cond (fits_in F kind size left) (head kind size) no_block

    -- it is of type 4 where type and length are right and 52 bytes are left
    standard_in_lem : is_standard head_in ≡ (eqb kind standard && eqb size F.block && leb F.block left)
    unfolding fits_in
    standard_in_lem =
        ⊎_elim
        (λ k.
        rw (eqb-true kind standard k)
        (⊎_elim (λ z. rw (eqb-true size F.block z, eq-eqb F.block F.block refl) (⊎_elim (λ l. rw l) (λ l. rw l) (decided (leb F.block left)))) (λ z. rw z) (decided (eqb size F.block))))
        (λ k. cond_cases (λ (b : Head). is_standard b ≡ false) (fits_in F kind size left) (head kind size) no_block (λ _. k) (λ _. refl) ∙ rw k)
        (decided (eqb kind standard))

    -- it is of type 5 where type and length are right and so many bytes are left
    augmented_in : augmented_size head_in
        ≡ cond (eqb kind augmented && leb augmented_least size && eqb (size % augmented_unit) 0 && leb size left) (Some size) None
    unfolding fits_in
    augmented_in =
        ⊎_elim
        (λ k.
        rw (eqb-true kind augmented k)
        (⊎_elim (λ f. rw f) (λ f. rw f) (decided (leb augmented_least size && eqb (size % augmented_unit) 0 && leb size left))))
        (λ k. cond_cases (λ (b : Head). augmented_size b ≡ None) (fits_in F kind size left) (head kind size) no_block (λ _. rw k) (λ _. refl) ∙ rw k)
        (decided (eqb kind augmented))

    -- and there is no third
    none_in : is_standard head_in ≡ false → augmented_size head_in ≡ None → no_block ≡ head_in
    unfolding fits_in
    none_in e z =
        ⊎_elim
        (λ f.
        let as_read : head_in ≡ head kind size = rw f in
        ⊎_elim
        (λ h.
        let k : is_standard head_in ≡ true = ap is_standard as_read ∙ (both_of (eqb kind standard) _ h).0 in
        let x : ◌≡◌ {A = ℕ} 0 1 = cc in
        absurd (omega arith))
        (λ h.
        let k : eqb kind augmented ≡ true = search parts depth 16 in
        let s : augmented_size head_in ≡ Some size = ap augmented_size as_read ∙ rw k in
        absurd (none-some size (sym z ∙ s)))
        (one_of (eqb kind standard && eqb size F.block) _ (both_of (right_size F kind size) _ f).0))
        (λ f. rw f)
        (decided (fits_in F kind size left))

  -- the same of a place in a message
  module _ (s : List ℕ) (at : ℕ) where
    abbrev kind_at : ℕ
    kind_at = byte_at s at

    abbrev size_at : ℕ
    size_at = be16 s (at + 1)

    abbrev left : ℕ
    left = length s - at

    head_is : block_at F s at ≡ head_in kind_at size_at left
    unfolding block_at begins
    head_is = rw (be-drop 1 s at 1, get_or-drop at s 0 0, add-zero, length-drop at s)

    standard_is : is_standard (block_at F s at) ≡ (eqb kind_at standard && eqb size_at F.block && leb F.block left)
    standard_is = ap is_standard head_is ∙ standard_in_lem kind_at size_at left

    augmented_is : augmented_size (block_at F s at)
        ≡ cond (eqb kind_at augmented && leb augmented_least size_at && eqb (size_at % augmented_unit) 0 && leb size_at left) (Some size_at) None
    augmented_is = ap augmented_size head_is ∙ augmented_in kind_at size_at left

    -- none where too little is left
    pub none_short : left < augmented_least → no_block ≡ block_at F s at
    unfolding block_at
    none_short h = rw (too_short sound (drop at s) (rw (length-drop at s) h))

    pub standard_cut : left < F.block → false ≡ is_standard (block_at F s at)
    standard_cut h = rw (standard_is, lt-leb _ _ h, and-false)

    pub augmented_cut : left < augmented_least → None ≡ augmented_size (block_at F s at)
    augmented_cut h = ap augmented_size (none_short h)

    module _ (size : ℕ) (z : size ≡ size_at) where
      pub standard_read : F.block ≤ left → (eqb kind_at standard && eqb size F.block) ≡ is_standard (block_at F s at)
      standard_read h = rw (standard_is, le-leb _ _ h, and-true, z)

      abbrev fits : Bool
      fits = eqb kind_at augmented && leb augmented_least size && eqb (size % augmented_unit) 0 && leb size left

      pub augmented_read : fits ≡ true → Some size ≡ augmented_size (block_at F s at)
      augmented_read f = rw (augmented_is, ← z, f)

      pub augmented_none : fits ≡ false → None ≡ augmented_size (block_at F s at)
      augmented_none f = rw (augmented_is, ← z, f)

    -- what the answers of `standard_at` and `augmented_at` tell
    module _ (one : Bool) (o : one ≡ is_standard (block_at F s at)) where
      pub standard_there : one ≡ true → head standard F.block ≡ block_at F s at
      unfolding fits_in
      standard_there e =
          let told : (eqb kind_at standard && eqb size_at F.block && leb F.block left) ≡ true = sym standard_is ∙ sym o ∙ e in
          let k : kind_at ≡ standard = eqb-true _ _ (search parts depth 16) in
          let z : size_at ≡ F.block = eqb-true _ _ (search parts depth 16) in
          let l : leb F.block left ≡ true = search parts depth 16 in
          rw (head_is, k, z, eq-eqb F.block F.block refl, l)

      module _ (other : one ≡ false) where
        pub none_there : None ≡ augmented_size (block_at F s at) → no_block ≡ block_at F s at
        none_there e = rw head_is (none_in kind_at size_at left (rw head_is at (sym o ∙ other)) (rw head_is at (sym e)))

        pub augmented_there : (size : ℕ) → Some size ≡ augmented_size (block_at F s at) → head augmented size ≡ block_at F s at
        augmented_there size z =
            ⊎_elim
            (λ k. ap₂ head (sym (eqb-true (block_at F s at).kind augmented k)) (same_Some size (block_at F s at).size (z ∙ rw k)))
            (λ k. absurd (none-some size (sym (z ∙ rw k))))
            (decided (eqb (block_at F s at).kind augmented))
