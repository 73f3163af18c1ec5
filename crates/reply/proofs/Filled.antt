-- A message whose blocks are known to go up to its end: at every place that they lead to a block begins, or the message ends.
use Prim.Native.Nat.{ℕ, ◌+◌, ◌-◌, ◌≤◌, ◌<◌}
use mathlib.Core.Path.{◌≡◌, refl, sym, ap, ◌∙◌}
use mathlib.Core.Bool.{true, false}
use mathlib.Core.List.{List, [], ◌∷◌}
use mathlib.Core.Logic.{⊎_elim}
use native.Mathlib.Omega.{arith}
use native.Mathlib.Nat.{add_assoc, add-zero}
use borrow.Author.Tests.{eq-eqb, ne_eqb}
use lib.ListN.{length, get_or, drop, length-take, length-drop}
use lib.Seq.{get_or-drop}
use Rattle.std.specs.Prelude.{Option, Some, None, slice_get}
use Rattle.wire.specs.Numbers.{byte_at, be16}
use Rattle.wire.specs.Parts.{part}
use Rattle.wire.proofs.Laws.{be-drop}
use Rattle.rows.proofs.Laws.{decided}
use Rattle.header.specs.Format.{header_size, standard, standard_size}
use Rattle.message.specs.Blocks.{begins, blocks_of, total_size, blocks_end}
use Rattle.message.specs.Inside.{Head, block_at, standards_from}
use Rattle.message.proofs.Laws.{there, begun, no_blocks_lem, blocks_on, standards_more, standards_same, first_inside, first_parts}
use Rattle.reply.specs.Inside.{first_or, FillsFrom, blocks_left}
use Rattle.reply.proofs.Places.{none_or_some, none_past}
use Rattle.format.specs.Sizes.{ipv4, ipv4_sound}

-- so it is from the first block on
pub fills_first : (s : List ℕ) → blocks_end ipv4 s ≡ length s → FillsFrom s header_size
unfolding blocks_end blocks_of
fills_first s e = e

module _ (s : List ℕ) (at : ℕ) (f : FillsFrom s at) where
  pub fills_high : at ≤ length s
  fills_high = omega (arith, f)

  module _ (low : at < length s) where
    begins_there : begins ipv4 (drop at s) ≡ true
    unfolding total_size
    begins_there = ⊎_elim (λ e. e) over (decided (begins ipv4 (drop at s)))
      where
        over : begins ipv4 (drop at s) ≡ false → begins ipv4 (drop at s) ≡ true
        over e = absurd (omega (arith, ap total_size (no_blocks_lem ipv4_sound at (drop at s) e), f))

    -- the block, and what its first bytes say of it
    abbrev block : Head
    block = block_at ipv4 s at

    head : block ≡ record { kind = byte_at (drop at s) 0; size = be16 (drop at s) 1 }
    head = there ipv4_sound s at block refl begins_there

    pub kind_read : block.kind ≡ byte_at s at
    kind_read = ap (λ (h : Head). h.kind) head ∙ get_or-drop at s 0 0 ∙ ap (byte_at s) (add-zero at)

    pub size_read : block.size ≡ be16 s (at + 1)
    size_read = ap (λ (h : Head). h.size) head ∙ be-drop 1 s at 1

    pub not_empty : block.size ≡ 0 → ⊥
    not_empty z = omega (arith, z, ap (λ (h : Head). h.size) head, (begun ipv4_sound (drop at s) begins_there).least)

    pub head_inside : at + 1 + 2 ≤ length s
    head_inside = omega (arith, (begun ipv4_sound (drop at s) begins_there).least, (begun ipv4_sound (drop at s) begins_there).inside, length-drop at s)

    pub fills_on : FillsFrom s (at + be16 s (at + 1))
    unfolding total_size
    fills_on = rw (← size_read) (add_assoc at block.size _ ∙ rw (blocks_on ipv4_sound s at block refl not_empty) at f)

    pub fills_moves : length s - (at + be16 s (at + 1)) < length s - at
    fills_moves = omega (arith, not_zero, low)
      where
        not_zero : 0 < be16 s (at + 1)
        not_zero = omega (arith, sym size_read, not_empty)

    -- a type 4 block begins here, or the blocks of type 4 are those behind this one
    pub standard-here : byte_at s at ≡ standard → standards_from ipv4 s at ≡ at ∷ standards_from ipv4 s (at + block.size)
    standard-here k = standards_more ipv4_sound s at block refl not_empty (eq-eqb _ _ (kind_read ∙ k))

    pub standard_later : (byte_at s at ≡ standard → ⊥) → standards_from ipv4 s at ≡ standards_from ipv4 s (at + be16 s (at + 1))
    standard_later k = rw (← size_read) (standards_same ipv4_sound s at block refl not_empty (ne_eqb _ _ (λ e. k (sym kind_read ∙ e))))

-- a search that has come to a place of such a message
pub record Sought (s : List ℕ) (place at : ℕ) : Type 0 where
  pub fills : FillsFrom s at
  pub same : standards_from ipv4 s place ≡ standards_from ipv4 s at

pub sought_first : (s : List ℕ) (place : ℕ) → FillsFrom s place → Sought s place place
sought_first s place f = record { fills = f; same = refl }

-- what it answers: where a block of type 4 begins, and the message is cut from there on as it was
pub record Knows (s : List ℕ) (place : ℕ) (answer : Option ℕ) : Type 0 where
  pub found : answer ≡ slice_get (standards_from ipv4 s place) 0
  pub fills : FillsFrom s (first_or (length s) (standards_from ipv4 s place))

module _ (s : List ℕ) (place at : ℕ) (g : Sought s place at) where
  module _ (low : at < length s) where
    pub sought_here : byte_at s at ≡ standard → Knows s place (Some at)
    unfolding first_or
    sought_here k =
        let parts = standard-here s at g.fills low k in
        record { found = rw (g.same, parts); fills = rw (g.same, parts) g.fills }

    pub sought_inside : at + 1 + 2 ≤ length s
    sought_inside = head_inside s at g.fills low

    module _ (size : ℕ) (e : size ≡ be16 s (at + 1)) where
      pub sought_on : (byte_at s at ≡ standard → ⊥) → Sought s place (at + size)
      sought_on k = rw e (record { fills = fills_on s at g.fills low; same = g.same ∙ standard_later s at g.fills low k })

      pub sought_fits : at + size ≤ length s
      sought_fits = rw e (fills_high s (at + be16 s (at + 1)) (fills_on s at g.fills low))

      pub sought_moves : length s - (at + size) < length s - at
      sought_moves = rw e (fills_moves s at g.fills low)

  pub sought_over : length s ≤ at → Knows s place None
  unfolding first_or
  sought_over h =
      let over = none_past s at h in
      let end : at ≡ length s = omega (arith, fills_high s at g.fills) in
      record { found = rw (g.same, over); fills = rw (g.same, over) (rw end at g.fills) }

-- each of the blocks left is of 52 bytes
pub item_long : (s : List ℕ) (place : ℕ) (block : List ℕ) (others : List (List ℕ)) → blocks_left s place ≡ block ∷ others → length block ≡ standard_size
unfolding blocks_left
item_long s place block others e =
    ⊎_elim
    (λ none. let nothing : [] ≡ block ∷ others = rw none at e in cc)
    (λ some.
    let at : ℕ = get_or (standards_from ipv4 s place) 0 0 in
    let same : part at standard_size s ≡ block = ap (λ (l : List (List ℕ)). get_or l 0 []) (rw (first_parts ipv4_sound s place some) at e) in
    ap (λ (l : List ℕ). length l) (sym same)
    ∙ (length-take standard_size (drop at s) ∙ rw (length-drop at s) (omega (arith, first_inside ipv4_sound s place some))))
    (none_or_some (standards_from ipv4 s place))
