-- By its answers too a Reply is read whole: called from byte 20 on, each time at the place that the call before answered, `copy_next` hands
-- out its blocks, in their order, each once, and then 0.
use Prim.Native.Nat.{ℕ, zero, suc, ◌+◌, ◌-◌, ◌≤◌, ◌<◌}
use mathlib.Core.Path.{◌≡◌, refl, sym, ap, ◌∙◌}
use mathlib.Core.Bool.{Bool, true, false, ◌||◌, or-true}
use mathlib.Core.List.{List, [], ◌++◌, map}
use mathlib.Core.Logic.{⊎_elim}
use native.Mathlib.Omega.{arith}
use borrow.Author.Tests.{le-leb, eq-eqb, ne_eqb, eqb-false, ltb-true, ltb-false}
use lib.Dec.{ltb, eqb}
use lib.ListN.{length, get_or, take, drop, length-drop, length-take}
use lib.Seq.{take-append_seam}
use Rattle.wire.specs.Parts.{part, splice}
use Rattle.wire.proofs.Laws.{splice_front, length-splice}
use Rattle.rows.proofs.Laws.{decided, none_is}
use Rattle.header.specs.Format.{header_size, standard, standard_size}
use Rattle.message.specs.Blocks.{blocks_from, blocks_of, standard_blocks}
use Rattle.message.specs.Inside.{block_at, standards_from}
use Rattle.message.proofs.Laws.{all_standards, blocks_on, size_standard, standards_more, standards_same, first_inside, first_parts}
use Rattle.reply.specs.Check.{reply_rows, Readable}
use Rattle.standard.specs.Standard.{standard_of}
use Rattle.reply.specs.Reader.{next_from}
use Rattle.reply.specs.Copy.{begins_at, is_place, copied, copied_out, copied_next, copied_by}
use Rattle.reply.specs.Inside.{FillsFrom}
use Rattle.reply.proofs.Places.{none_or_some, none_past}
use Rattle.reply.proofs.Readable.{readable_known, known_fills}
use Rattle.reply.proofs.Filled.{fills_first, fills_high, not_empty, size_read, fills_on}
use Rattle.format.specs.Sizes.{ipv4, ipv4_sound}

-- a place that the blocks lead to: from there on they go up to the end, and what begins later is told by them
record Reached (s : List ℕ) (at : ℕ) : Type 0 where
  fills : FillsFrom s at
  told : (place : ℕ) → at ≤ place → begins_at place (blocks_of ipv4 s) ≡ begins_at place (blocks_from ipv4 at (drop at s))

reached_first : (s : List ℕ) → Readable s → Reached s header_size
unfolding blocks_of
reached_first s r = record { fills = fills_first s (known_fills s (readable_known s r)); told = λ place h. refl }

module _ (s : List ℕ) (at : ℕ) (r : Reached s at) where
  reached_on : at < length s → Reached s (at + (block_at ipv4 s at).size)
  unfolding begins_at
  reached_on low =
      let some = not_empty s at r.fills low in
      let on = blocks_on ipv4_sound s at (block_at ipv4 s at) refl some in
      record {
        fills = rw (size_read s at r.fills low) (fills_on s at r.fills low);
        told = λ place h. let n : at ≡ place → ⊥ = λ e. omega (arith, some) in r.told place (omega arith) ∙ rw (on, ne_eqb _ _ n);
      }

  reached_place : is_place s at ≡ true
  unfolding begins_at
  reached_place =
      ⊎_elim
      (λ e. ap (λ (b : Bool). begins_at at (blocks_of ipv4 s) || b) e ∙ or-true (begins_at at (blocks_of ipv4 s)))
      (λ e.
      let n : at ≡ length s → ⊥ = eqb-false _ _ e in
      let low : at < length s = omega (arith, fills_high s at r.fills, n) in
      let on = blocks_on ipv4_sound s at (block_at ipv4 s at) refl (not_empty s at r.fills low) in
      rw (r.told at (omega arith), on, eq-eqb at at refl))
      (decided (eqb at (length s)))

-- where a block is left the message goes on
goes_on : (s : List ℕ) (at : ℕ) → Reached s at → 0 < length (standards_from ipv4 s at) → at < length s
goes_on s at r some =
    ⊎_elim (λ e. ltb-true _ _ e)
    (λ e. absurd (omega (arith, ap (λ (l : List ℕ). length l) (none_past s at (ltb-false at (length s) e)))))
    (decided (ltb at (length s)))

-- behind the next type 4 block is such a place too
behind_reached : (turns : ℕ) (s : List ℕ) (at : ℕ) → length s - at < turns → Reached s at → 0 < length (standards_from ipv4 s at)
    → Reached s (get_or (standards_from ipv4 s at) 0 0 + standard_size)
behind_reached zero s at h r some = absurd (omega arith)
behind_reached (suc turns) s at h r some =
    let low = goes_on s at r some in
    let block = block_at ipv4 s at in
    let there = not_empty s at r.fills low in
    ⊎_elim
    (λ e. rw (standards_more ipv4_sound s at block refl there e) (rw (size_standard ipv4_sound s at block refl there e) at (reached_on s at r low)))
    (λ e.
    let same = standards_same ipv4_sound s at block refl there e in
    rw same (behind_reached turns s (at + block.size) (omega (arith, there, low)) (reached_on s at r low) (rw same at some)))
    (decided (eqb block.kind standard))

-- what one call leaves
module _ (s : List ℕ) (readable : Readable s) (place : ℕ) (r : Reached s place) (block : List ℕ) (room : standard_size ≤ length block) where
  goes : copied_next s place block ≡ copied_out (next_from s place) block
  unfolding copied_next
  goes = rw (le-leb _ _ room, none_is (λ _. false) true (reply_rows s) readable, reached_place s place r)

  stops : standards_from ipv4 s place ≡ [] → copied_next s place block ≡ copied 0 block
  unfolding next_from standards_from
  stops none = goes ∙ rw none

  module _ (some : 0 < length (standards_from ipv4 s place)) where
    abbrev first : ℕ
    first = get_or (standards_from ipv4 s place) 0 0

    abbrev bytes : List ℕ
    bytes = part first standard_size s

    hands : copied_next s place block ≡ copied (first + standard_size) (splice block 0 bytes)
    unfolding next_from standards_from standard_of
    hands = goes ∙ rw (first_parts ipv4_sound s place some)

    bytes-length : length bytes ≡ standard_size
    bytes-length = length-take standard_size (drop first s) ∙ rw (length-drop first s) (omega (arith, first_inside ipv4_sound s place some))

    taken : take standard_size (splice block 0 bytes) ≡ bytes
    taken =
        ap (take standard_size) (splice_front block bytes) ∙ ap (λ (n : ℕ). take n (bytes ++ drop (length bytes) block)) (sym bytes-length)
        ∙ take-append_seam bytes _

    again : standard_size ≤ length (splice block 0 bytes)
    again = rw (length-splice block 0 bytes (omega (arith, bytes-length))) room

-- all calls
calls_left : (calls : ℕ) (s : List ℕ) → Readable s → (place : ℕ) → Reached s place → (block : List ℕ) → standard_size ≤ length block
    → copied_by calls s place block ≡ take calls (map (λ at. part at standard_size s) (standards_from ipv4 s place))
unfolding copied_by
calls_left zero s readable place r block room = refl
calls_left (suc calls) s readable place r block room =
    ⊎_elim
    (λ none. rw (stops s readable place r block room none, none))
    (λ some.
    let first : ℕ = get_or (standards_from ipv4 s place) 0 0 in
    let n : first + standard_size ≡ 0 → ⊥ = λ e. omega arith in
    let later = calls_left calls s readable (first + standard_size) (behind_reached (suc (length s - place)) s place (omega arith) r some)
    (splice block 0 (part first standard_size s)) (again s readable place r block room some) in
    rw (hands s readable place r block room some, ne_eqb _ _ n, taken s readable place r block room some, later, first_parts ipv4_sound s place some))
    (none_or_some (standards_from ipv4 s place))

pub answers_all : (calls : ℕ) (s block : List ℕ) → Readable s → standard_size ≤ length block → copied_by calls s header_size block ≡ take calls (standard_blocks ipv4 s)
unfolding standard_blocks
answers_all calls s block readable room =
    calls_left calls s readable header_size (reached_first s readable) block room ∙ rw (← all_standards ipv4_sound s)
