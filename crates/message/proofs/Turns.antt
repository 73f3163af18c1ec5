-- What each turn of the walk over the blocks shows: the answer for the whole message is what was found so far, joined with
-- what the blocks from here on give.
use Prim.Native.Nat.{ℕ, suc, ◌+◌, ◌-◌, ◌≤◌, ◌<◌}
use mathlib.Core.Path.{◌≡◌, refl, sym, ap, ◌∙◌}
use mathlib.Core.Bool.{Bool, true, false, cond}
use mathlib.Core.List.{List, [], ◌∷◌}
use mathlib.Core.Logic.{⊎_elim}
use native.Mathlib.Omega.{arith}
use native.Mathlib.Nat.{add-zero, zero-add, add_assoc}
use borrow.Author.Tests.{eqb-true}
use lib.Dec.{eqb}
use lib.ListN.{length, drop, length-drop}
use lib.Seq.{drop-drop}
use Rattle.wire.specs.Numbers.{byte_at, be16}
use Rattle.rows.proofs.Laws.{decided}
use Rattle.message.specs.declared.Blocks.{Blocks}
use Rattle.header.specs.Format.{standard}
use Rattle.message.specs.Blocks.{Placed, begins, blocks_from, blocks_of, total_size, standard_places, last_or, standards, blocks_end}
use Rattle.message.specs.Inside.{Head, no_block, head_of, is_standard, block_at, blocks_seen}
use Rattle.std.specs.Prelude.{Option, Some, None}
use Rattle.message.specs.declared.BlockHead.{BlockHead}
use Rattle.header.specs.declared.BlockKind.TheVariants.{Standard}
use denote.Enum.Bare.{sameb}
use Rattle.header.specs.contracts.BlockKind.{the_type}
use Rattle.message.proofs.Once.{typed, kind_told}
use Rattle.message.proofs.Cut.{begun, no_blocks_lem, block_first}
use Rattle.format.specs.declared.Format.{Format}
use Rattle.format.specs.Sizes.{Sound, augmented_least}

-- what was found up to a place, joined with the blocks from there on
unfoldable pub joined : ℕ → ℕ → ℕ → List Placed → Blocks
joined at count last blocks =
    record { end = at + total_size blocks; count = count + length (standard_places blocks); last = last_or last (standard_places blocks) }

-- a block of type 4 is counted, any other is not
module _ (block : Placed) (others : List Placed) where
  pub standard_more : eqb block.kind standard ≡ true → standard_places (block ∷ others) ≡ block.at ∷ standard_places others
  unfolding standard_places
  standard_more e = rw e

  pub standard_same : eqb block.kind standard ≡ false → standard_places (block ∷ others) ≡ standard_places others
  unfolding standard_places
  standard_same e = rw e

-- the first block taken over into what was found
joined_first : (block : Placed) (count last : ℕ) (others : List Placed)
    → joined block.at count last (block ∷ others)
    ≡ joined (block.at + block.size) (cond (eqb block.kind standard) (count + 1) count) (cond (eqb block.kind standard) block.at last) others
unfolding joined total_size last_or
joined_first block count last others =
    let places : List ℕ = standard_places others in
    let more : count + suc (length places) ≡ count + 1 + length places = omega arith in
    let far = add_assoc block.at block.size (total_size others) in
    ⊎_elim
    (λ e. rw (standard_more block others e, e, more, far))
    (λ e. rw (standard_same block others e, e, far))
    (decided (eqb block.kind standard))

module _ {F : Format} (sound : Sound F) where
  -- what is known of the block at a place by its length, which is 0 where there is none
  module _ (s : List ℕ) (at : ℕ) (block : Head) (b : block ≡ block_at F s at) where
    abbrev rest : List ℕ
    rest = drop at s

    pub there : begins F rest ≡ true → block ≡ record { kind = byte_at rest 0; size = be16 rest 1 }
    unfolding block_at
    there e = b ∙ rw e

    nowhere : begins F rest ≡ false → block ≡ no_block
    unfolding block_at
    nowhere e = b ∙ rw e

    pub ends : block.size ≡ 0 → begins F rest ≡ false
    ends z =
        ⊎_elim
        (λ e. absurd (omega (arith, z, (begun sound rest e).least, ap (λ (h : Head). h.size) (there e))))
        (λ e. e)
        (decided (begins F rest))

    pub blocks_over : block.size ≡ 0 → blocks_from F at rest ≡ []
    blocks_over z = no_blocks_lem sound at rest (ends z)

    module _ (some : block.size ≡ 0 → ⊥) where
      pub starts : begins F rest ≡ true
      starts = ⊎_elim (λ e. e) (λ e. absurd (some (ap (λ (h : Head). h.size) (nowhere e)))) (decided (begins F rest))

      size_there : block.size ≡ be16 rest 1
      size_there = ap (λ (h : Head). h.size) (there starts)

      -- it is not empty, it lies within, and type 4 has its size
      size_least : augmented_least ≤ block.size
      size_least = rw size_there (begun sound rest starts).least

      pub size_inside : at ≤ length s → at + block.size ≤ length s
      size_inside h = omega (arith, size_there, (begun sound rest starts).inside, length-drop at s)

      pub moves_on : at ≤ length s → length s - (at + block.size) < length s - at
      moves_on h = omega (arith, size_least, size_inside h)

      pub size_standard : eqb block.kind standard ≡ true → block.size ≡ F.block
      size_standard e = size_there ∙ (begun sound rest starts).standard_size (ap (λ (h : Head). h.kind) (sym (there starts)) ∙ eqb-true block.kind standard e)

      -- the blocks from here on: that one, and those behind it
      pub blocks_on : blocks_from F at rest ≡ record { at = at; kind = block.kind; size = block.size } ∷ blocks_from F (at + block.size) (drop (at + block.size) s)
      blocks_on =
          block_first sound at rest starts
          ∙ rw (there starts, drop-drop)

    -- the walk over them
    module _ (count last : ℕ) (so_far : blocks_seen F s ≡ joined at count last (blocks_from F at rest)) where
      pub over : block.size ≡ 0 → record { end = at; count = count; last = last } ≡ blocks_seen F s
      unfolding joined total_size standard_places last_or
      over z = rw (so_far, blocks_over z, add-zero, add-zero)

      pub on : (block.size ≡ 0 → ⊥)
          → blocks_seen F s
          ≡ joined (at + block.size) (cond (is_standard block) (count + 1) count) (cond (is_standard block) at last) (blocks_from F (at + block.size) (drop (at + block.size) s))
      on some = rw (so_far, blocks_on some, joined_first (record { at = at; kind = block.kind; size = block.size }) count last _)

  -- a block that is read has a type, and so a length
  module _ (s : List ℕ) (at : ℕ) (block : BlockHead) (b : head_of (Some block) ≡ block_at F s at) where
    some_size : block.size ≡ 0 → ⊥
    some_size z = typed block.kind (ap (λ (h : Head). h.kind) (b ∙ nowhere s at (block_at F s at) refl (ends s at (head_of (Some block)) b z)))

    pub block_some : 0 < block.size
    block_some = omega (arith, size_least s at (head_of (Some block)) b some_size)

    pub block_inside : at ≤ length s → at + block.size ≤ length s
    block_inside = size_inside s at (head_of (Some block)) b some_size

    pub block_moves : at ≤ length s → length s - (at + block.size) < length s - at
    block_moves = moves_on s at (head_of (Some block)) b some_size

    -- one of type 4 is counted, any other is passed over
    module _ (one : Bool) (told : one ≡ sameb the_type block.kind Standard) (count last : ℕ)
        (so_far : blocks_seen F s ≡ joined at count last (blocks_from F at (drop at s))) where
      abbrev behind : List Placed
      behind = blocks_from F (at + block.size) (drop (at + block.size) s)

      walk_on : blocks_seen F s ≡ joined (at + block.size) (cond one (count + 1) count) (cond one at last) behind
      walk_on = rw (told ∙ kind_told block.kind) (on s at (head_of (Some block)) b count last so_far some_size)

      module _ (n l : ℕ) where
        pub walk_counted : one ≡ true → n ≡ count + 1 → l ≡ at → blocks_seen F s ≡ joined (at + block.size) n l behind
        walk_counted e counted here = rw (counted, here) (rw e at walk_on)

        pub walk_passed : one ≡ false → n ≡ count → l ≡ last → blocks_seen F s ≡ joined (at + block.size) n l behind
        walk_passed e same before = rw (same, before) (rw e at walk_on)

  -- and where none is read the walk is over
  pub walk_over : (s : List ℕ) (at : ℕ) (block : Option BlockHead) → head_of block ≡ block_at F s at → block ≡ None → (count last : ℕ)
      → blocks_seen F s ≡ joined at count last (blocks_from F at (drop at s)) → record { end = at; count = count; last = last } ≡ blocks_seen F s
  walk_over s at block b none count last so_far = over s at (head_of block) b count last so_far (ap (λ (o : Option BlockHead). (head_of o).size) none)

  -- where the walk begins nothing was found yet
  pub at_first : (s : List ℕ) → blocks_seen F s ≡ joined F.header 0 0 (blocks_from F F.header (drop F.header s))
  unfolding blocks_seen blocks_end standards blocks_of joined
  at_first s = rw zero-add
