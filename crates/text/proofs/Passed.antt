-- The lines of a message's type 4 blocks, written one by one while its blocks are passed.
use Prim.Native.Nat.{ℕ, suc, ◌+◌, ◌*◌, ◌-◌, ◌≤◌, ◌<◌}
use mathlib.Core.Path.{◌≡◌, refl, sym, ap, ◌∙◌}
use mathlib.Core.Bool.{Bool, true, false}
use mathlib.Core.List.{List, [], ◌++◌, map, append-nil, append_assoc}
use native.Mathlib.Omega.{arith}
use native.Mathlib.Numerals.{add-one}
use lib.Dec.{eqb}
use lib.ListN.{length, take, drop, length-drop}
use lib.Seq.{length-take-le}
use Rattle.wire.specs.Parts.{part}
use Rattle.header.specs.Format.{header_size, most, standard, standard_size}
use Rattle.message.specs.Blocks.{standards, standard_blocks}
use Rattle.message.specs.Inside.{Head, head_of, block_at, standards_from}
use Rattle.message.specs.declared.BlockHead.{BlockHead}
use denote.Enum.Bare.{sameb}
use Rattle.header.specs.contracts.BlockKind.{the_type}
use Rattle.header.specs.declared.BlockKind.TheVariants.{Standard}
use Rattle.message.proofs.Laws.{block_some, kind_told}
use Rattle.std.specs.Prelude.{Option, Some, None}
use Rattle.message.proofs.Laws.{all_standards, none_short, standards_more, standards_same, standards_over, size_inside, size_standard}
use Rattle.text.specs.Text.{line_of, lines_of, most_line, most_lines, text_size}
use Rattle.format.specs.Sizes.{ipv4, ipv4_sound}

-- the blocks that begin at some places
abbrev blocks_at : List ℕ → List ℕ → List (List ℕ)
blocks_at m places = map (λ at. part at standard_size m) places

-- what is written up to a place in the message: so many lines, and the others are still to come
pub record SoFar (m text text' : List ℕ) (at count : ℕ) : Type 0 where
  pub left : text ++ lines_of 1 (standard_blocks ipv4 m) ≡ text' ++ lines_of (suc count) (blocks_at m (standards_from ipv4 m at))
  pub few : length text' ≤ length text + most_line * count
  pub inside : at ≤ length m
  pub passed : header_size + standard_size * count ≤ at

module _ (m text : List ℕ) where
  -- a message without a header has no blocks
  pub no_lines : length m < header_size → text ≡ text ++ lines_of 1 (standard_blocks ipv4 m)
  unfolding standard_blocks lines_of
  no_lines h =
      let none : standards ipv4 m ≡ [] = all_standards ipv4_sound m ∙ standards_over ipv4_sound m header_size _ (none_short ipv4_sound m header_size (omega arith)) refl in
      rw (none, append-nil) refl

  -- before the first block none is written
  pub none_yet : header_size ≤ length m → SoFar m text text header_size 0
  unfolding standard_blocks
  none_yet h = record { left = rw (all_standards ipv4_sound m) refl; few = omega arith; inside = h; passed = omega arith }

  module _ (text' : List ℕ) (at count : ℕ) (so_far : SoFar m text text' at count) (short : length m ≤ most) where
    -- behind the last block all are
    pub all_lines : (found : Option BlockHead) → head_of found ≡ block_at ipv4 m at → found ≡ None
        → text' ≡ text ++ lines_of 1 (standard_blocks ipv4 m)
    unfolding lines_of
    all_lines found b none =
        let over = standards_over ipv4_sound m at (head_of found) b (ap (λ (o : Option BlockHead). (head_of o).size) none) in
        sym (so_far.left ∙ rw (over, append-nil))

    module _ (it : BlockHead) (b : head_of (Some it) ≡ block_at ipv4 m at) where
      abbrev block : Head
      block = head_of (Some it)

      some : block.size ≡ 0 → ⊥
      some z = omega (arith, z, block_some ipv4_sound m at it b)

      module _ (one : Bool) (told : one ≡ sameb the_type it.kind Standard) where
        o : one ≡ eqb block.kind standard
        o = told ∙ kind_told it.kind

        abbrev bytes : List ℕ
        bytes = take (at + block.size - at) (drop at m)

        size_is : one ≡ true → block.size ≡ standard_size
        size_is e = size_standard ipv4_sound m at block b some (sym o ∙ e)

        -- a block of type 4 is whole, and there is room for its line
        pub line_fits : length text + most_lines ≤ text_size → one ≡ true
            → (standard_size ≤ length bytes) × (length text' + most_line ≤ text_size)
        line_fits room e =
            let s = size_is e in
            let i = size_inside ipv4_sound m at block b some so_far.inside in (
              omega (arith, length-take-le (at + block.size - at) (drop at m) (omega (arith, length-drop at m))),
              omega (arith, so_far.few, so_far.passed),
            )

        -- one block on: with a line, or without one
        pub passed_standard : (text'' : List ℕ) → one ≡ true → text'' ≡ text' ++ line_of (count + 1) bytes
            → length text'' ≤ length text' + most_line → SoFar m text text'' (at + block.size) (count + 1)
        unfolding lines_of
        passed_standard text'' e w few =
            let s = size_is e in
            let whole : at + block.size - at ≡ standard_size = omega arith in
            record {
              left = so_far.left ∙ rw (standards_more ipv4_sound m at block b some (sym o ∙ e), w, whole, add-one) (simp append_assoc);
              few = omega (arith, so_far.few);
              inside = size_inside ipv4_sound m at block b some so_far.inside;
              passed = omega (arith, so_far.passed);
            }

        pub passed_other : one ≡ false → SoFar m text text' (at + block.size) count
        passed_other e =
            record {
              left = so_far.left ∙ rw (standards_same ipv4_sound m at block b some (sym o ∙ e));
              few = so_far.few;
              inside = size_inside ipv4_sound m at block b some so_far.inside;
              passed = omega (arith, so_far.passed);
            }
