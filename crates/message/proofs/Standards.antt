-- Laws of a message's type 4 blocks: where they stand, that they fit in, and which is the last.
use Prim.Native.Nat.{ℕ, zero, suc, ◌+◌, ◌*◌, ◌-◌, ◌≤◌, ◌<◌}
use mathlib.Core.Path.{◌≡◌, refl, sym, ap, ◌∙◌}
use mathlib.Core.Bool.{true, false}
use mathlib.Core.List.{List, [], ◌∷◌}
use mathlib.Core.Logic.{⊎_elim}
use native.Mathlib.Omega.{arith}
use native.Mathlib.Nat.{mul-le-mul_right}
use borrow.Author.Tests.{eqb-true}
use lib.Dec.{eqb}
use lib.ListN.{length, get_or, drop, length-drop}
use lib.Seq.{drop-drop}
use Rattle.wire.specs.Numbers.{byte_at, be16}
use Rattle.header.specs.Format.{standard}
use Rattle.message.specs.Inside.{Head, block_at, standards_from, standard_at}
use Rattle.message.specs.Blocks.{Placed, placed_at, begins, blocks_from, blocks_of, total_size, standard_places, last_or, standards, standard_count, last_standard}
use Rattle.rows.proofs.Laws.{decided}
use Rattle.message.proofs.Cut.{begun, no_blocks_lem, block_first, by_blocks}
use Rattle.message.proofs.Turns.{standard_more, standard_same, there, ends, starts}
use Rattle.format.specs.declared.Format.{Format}
use Rattle.format.specs.Sizes.{Sound}

module _ {F : Format} (sound : Sound F) where
  -- the type 4 blocks of what begins with no block, with one of type 4, with another
  pub no_places : (at : ℕ) (rest : List ℕ) → begins F rest ≡ false → standard_places (blocks_from F at rest) ≡ []
  unfolding standard_places
  no_places at rest b = rw (no_blocks_lem sound at rest b)

  module _ (at : ℕ) (rest : List ℕ) (b : begins F rest ≡ true) where
    abbrev behind : List Placed
    behind = blocks_from F (at + be16 rest 1) (drop (be16 rest 1) rest)

    pub places_more : eqb (byte_at rest 0) standard ≡ true → standard_places (blocks_from F at rest) ≡ at ∷ standard_places behind
    places_more k = rw (block_first sound at rest b) (standard_more (placed_at at rest) behind k)

    pub places_same : eqb (byte_at rest 0) standard ≡ false → standard_places (blocks_from F at rest) ≡ standard_places behind
    places_same k = rw (block_first sound at rest b) (standard_same (placed_at at rest) behind k)

  -- the same from a place of a message on, by the block that stands there
  module _ (s : List ℕ) (at : ℕ) (block : Head) (b : block ≡ block_at F s at) where
    pub standards_over : block.size ≡ 0 → standards_from F s at ≡ []
    unfolding standards_from
    standards_over z = no_places at (drop at s) (ends sound s at block b z)

    module _ (some : block.size ≡ 0 → ⊥) where
      abbrev starting : begins F (drop at s) ≡ true
      starting = starts sound s at block b some

      pub standards_more : eqb block.kind standard ≡ true → standards_from F s at ≡ at ∷ standards_from F s (at + block.size)
      unfolding standards_from
      standards_more = rw (there sound s at block b starting, ← drop-drop) (places_more at (drop at s) starting)

      pub standards_same : eqb block.kind standard ≡ false → standards_from F s at ≡ standards_from F s (at + block.size)
      unfolding standards_from
      standards_same = rw (there sound s at block b starting, ← drop-drop) (places_same at (drop at s) starting)

  pub all_standards : (s : List ℕ) → standards F s ≡ standards_from F s F.header
  unfolding standards blocks_of standards_from
  all_standards s = refl

  -- the rule of the type 4 blocks: what holds of one that stands in front, and goes on from behind a block to the whole,
  -- holds of every one
  module _
      (Q : ℕ → List ℕ → ℕ → Type 0)
      (in-front : (at : ℕ) (rest : List ℕ) → begins F rest ≡ true → byte_at rest 0 ≡ standard → Q at rest at)
      (goes_on : (at : ℕ) (rest : List ℕ) (p : ℕ) → begins F rest ≡ true → Q (at + be16 rest 1) (drop (be16 rest 1) rest) p → Q at rest p)
    where
      Each : ℕ → List ℕ → List ℕ → Type 0
      Each at rest places = (k : ℕ) → k < length places → Q at rest (get_or places k 0)

      each_more : (at : ℕ) (rest places : List ℕ) → Q at rest at → Each at rest places → Each at rest (at ∷ places)
      unfolding Each
      each_more at rest places q f zero h = q
      each_more at rest places q f (suc k) h = f k (omega arith)

      each_behind : (at : ℕ) (rest : List ℕ) → begins F rest ≡ true
          → Each (at + be16 rest 1) (drop (be16 rest 1) rest) (standard_places (blocks_from F (at + be16 rest 1) (drop (be16 rest 1) rest)))
          → Each at rest (standard_places (blocks_from F at rest))
      unfolding Each
      each_behind at rest b f =
          let places : List ℕ = standard_places (behind at rest b) in
          let g : Each at rest places = λ k h. goes_on at rest (get_or places k 0) b (f k h) in
          ⊎_elim
          (λ e. rw (places_more at rest b e) (each_more at rest places (in-front at rest b (eqb-true _ _ e)) g))
          (λ e. rw (places_same at rest b e) g)
          (decided (eqb (byte_at rest 0) standard))

      pub by_standard : (at : ℕ) (rest : List ℕ) (k : ℕ) → k < length (standard_places (blocks_from F at rest))
          → Q at rest (get_or (standard_places (blocks_from F at rest)) k 0)
      unfolding Each
      by_standard =
          by_blocks sound (λ at rest. Each at rest (standard_places (blocks_from F at rest)))
          (λ at rest b. rw (no_places at rest b) (λ k h. absurd (omega arith)))
          each_behind

  -- the blocks lie within the bytes that they were cut from, and those of type 4 take 52 bytes each
  pub sizes_inside : (at : ℕ) (rest : List ℕ) → total_size (blocks_from F at rest) ≤ length rest
  unfolding total_size
  sizes_inside =
      by_blocks sound (λ at rest. total_size (blocks_from F at rest) ≤ length rest)
      (λ at rest b. rw (no_blocks_lem sound at rest b) (omega arith))
      (λ at rest b h. rw (block_first sound at rest b) (omega (arith, (begun sound rest b).inside, length-drop (be16 rest 1) rest)))

  standards_inside : (at : ℕ) (rest : List ℕ) → F.block * length (standard_places (blocks_from F at rest)) ≤ total_size (blocks_from F at rest)
  unfolding total_size
  standards_inside =
      by_blocks sound (λ at rest. F.block * length (standard_places (blocks_from F at rest)) ≤ total_size (blocks_from F at rest))
      (λ at rest b. rw (no_places at rest b, no_blocks_lem sound at rest b) (omega arith))
      (λ at rest b h.
      ⊎_elim
      (λ e. rw (places_more at rest b e, block_first sound at rest b) (omega (arith, (begun sound rest b).standard_size (eqb-true _ _ e))))
      (λ e. rw (places_same at rest b e, block_first sound at rest b) (omega arith))
      (decided (eqb (byte_at rest 0) standard)))

  record Inside (at : ℕ) (rest : List ℕ) (p : ℕ) : Type 0 where
    low : at ≤ p
    high : p + F.block ≤ at + length rest

  place_inside : (at : ℕ) (rest : List ℕ) (k : ℕ) → k < length (standard_places (blocks_from F at rest))
      → Inside at rest (get_or (standard_places (blocks_from F at rest)) k 0)
  place_inside =
      by_standard Inside
      (λ at rest b k.
      let g = begun sound rest b in
      record { low = omega arith; high = omega (arith, g.inside, g.standard_size k) })
      (λ at rest p b i. record { low = omega (arith, i.low); high = omega (arith, i.low, i.high, (begun sound rest b).inside, length-drop (be16 rest 1) rest) })

  -- the first of the type 4 blocks from a place on, and those behind it
  record Led (at : ℕ) (rest places : List ℕ) : Type 0 where
    low : at ≤ get_or places 0 0
    same : places ≡ standard_places (blocks_from F (get_or places 0 0) (drop (get_or places 0 0 - at) rest))
    parts : places ≡ get_or places 0 0 ∷ standard_places (blocks_from F (get_or places 0 0 + F.block) (drop (get_or places 0 0 + F.block - at) rest))

  led_behind : (at size : ℕ) (rest places : List ℕ) → Led (at + size) (drop size rest) places → Led at rest places
  led_behind at size rest places l =
      let first : ℕ = get_or places 0 0 in
      let near : size + (first - (at + size)) ≡ first - at = omega (arith, l.low) in
      let far : size + (first + F.block - (at + size)) ≡ first + F.block - at = omega (arith, l.low) in
      record {
        low = omega (arith, l.low);
        same = l.same ∙ ap (λ (r : List ℕ). standard_places (blocks_from F first r)) (drop-drop (first - (at + size)) size rest ∙ rw near);
        parts = l.parts
            ∙ ap (λ (r : List ℕ). first ∷ standard_places (blocks_from F (first + F.block) r))
            (drop-drop (first + F.block - (at + size)) size rest ∙ rw far);
      }

  led_by : (at : ℕ) (rest : List ℕ) → 0 < length (standard_places (blocks_from F at rest)) → Led at rest (standard_places (blocks_from F at rest))
  led_by =
      by_blocks sound (λ at rest. 0 < length (standard_places (blocks_from F at rest)) → Led at rest (standard_places (blocks_from F at rest)))
      (λ at rest b. rw (no_places at rest b) (λ h. absurd (omega arith)))
      (λ at rest b f.
      ⊎_elim
      (λ e.
      let size : be16 rest 1 ≡ F.block = (begun sound rest b).standard_size (eqb-true _ _ e) in
      let here : at - at ≡ 0 = omega arith in
      let far : at + F.block - at ≡ F.block = omega arith in
      let same : at ∷ standard_places (behind at rest b) ≡ standard_places (blocks_from F at (drop (at - at) rest)) = rw here (sym (places_more at rest b e)) in
      rw (places_more at rest b e) (λ h. record { low = omega arith; same = same; parts = rw (far, size) }))
      (λ e. rw (places_same at rest b e) (λ h. led_behind at (be16 rest 1) rest _ (f h)))
      (decided (eqb (byte_at rest 0) standard)))

  -- the last of some places
  last_of : (none : ℕ) (places : List ℕ) → 0 < length places → last_or none places ≡ get_or places (length places - 1) 0
  unfolding last_or
  last_of none [] h = absurd (omega arith)
  last_of none (p ∷ []) h = refl
  last_of none (p ∷ q ∷ places) h =
      let e : suc (suc (length places)) - 1 ≡ suc (length places) = omega arith in
      let f : suc (length places) - 1 ≡ length places = omega arith in
      rw e (last_of p (q ∷ places) (omega arith) ∙ rw f)

  -- of a message, from a place on
  module _ (s : List ℕ) (at : ℕ) (some : 0 < length (standards_from F s at)) where
    abbrev first : ℕ
    first = get_or (standards_from F s at) 0 0

    pub first_inside : first + F.block ≤ length s
    unfolding standards_from
    first_inside =
        let i = place_inside at (drop at s) 0 some in
        omega (arith, i.low, i.high, length-drop at s)

    pub first_low : at ≤ first
    unfolding standards_from
    first_low = (led_by at (drop at s) some).low

    pub first_same : standards_from F s at ≡ standards_from F s first
    unfolding standards_from
    first_same =
        let l = led_by at (drop at s) some in
        let near : at + (first - at) ≡ first = omega (arith, l.low) in
        l.same ∙ rw (drop-drop, near)

    pub first_parts : standards_from F s at ≡ first ∷ standards_from F s (first + F.block)
    unfolding standards_from
    first_parts =
        let l = led_by at (drop at s) some in
        let far : at + (first + F.block - at) ≡ first + F.block = omega (arith, l.low) in
        l.parts ∙ rw (drop-drop, far)

  -- of all of it
  module _ (s : List ℕ) where
    pub standards_fit : F.header ≤ length s → F.header + F.block * standard_count F s ≤ length s
    unfolding standards blocks_of
    standards_fit low =
        omega (arith, standards_inside F.header (drop F.header s), sizes_inside F.header (drop F.header s), length-drop F.header s)

    -- a byte each at the least
    pub standards_few : F.header ≤ length s → F.header + standard_count F s ≤ length s
    standards_few low = let some : 1 ≤ F.block = omega arith in omega (arith, standards_fit low, mul-le-mul_right (standard_count F s) some)

    pub standard_low : (k : ℕ) → k < standard_count F s → F.header ≤ standard_at F s k
    unfolding standards blocks_of
    standard_low k h = (place_inside F.header (drop F.header s) k h).low

    pub standard_high : F.header ≤ length s → (k : ℕ) → k < standard_count F s → standard_at F s k + F.block ≤ length s
    unfolding standards blocks_of
    standard_high low k h = omega (arith, (place_inside F.header (drop F.header s) k h).high, length-drop F.header s)

    pub last_is : 0 < standard_count F s → last_standard F s ≡ standard_at F s (standard_count F s - 1)
    last_is h = last_of 0 (standards F s) h

    pub last_low : 0 < standard_count F s → F.header ≤ last_standard F s
    last_low h = rw (last_is h) (standard_low (standard_count F s - 1) (omega arith))

    pub last_high : F.header ≤ length s → 0 < standard_count F s → last_standard F s + F.block ≤ length s
    last_high low h = rw (last_is h) (standard_high low (standard_count F s - 1) (omega arith))
