-- Laws of writing one byte into a message: the type byte, or a byte behind the type and the length of a type 4 block (its
-- forwarding code is one). Either keeps the blocks, and all other fields of the header.
use Prim.Native.Nat.{ℕ, ◌+◌, ◌-◌, ◌^◌, ◌≤◌, ◌<◌}
use mathlib.Core.Path.{◌≡◌, ap, ◌∙◌}
use mathlib.Core.Bool.{true}
use mathlib.Core.List.{List, ◌∷◌}
use native.Mathlib.Omega.{arith}
use borrow.Author.Tests.{ne_eqb}
use lib.ListN.{length, drop, set, length-set}
use lib.Seq.{get_or-set_same, get_or-set_other, drop-set-lt, drop-set-add}
use Rattle.wire.specs.Numbers.{byte_at, be, be16}
use Rattle.wire.proofs.Laws.{be_same}
use Rattle.header.specs.Format.{query, standard}
use Rattle.header.specs.Header.{header_of, retyped}
use Rattle.message.specs.Inside.{standard_at}
use Rattle.message.specs.Blocks.{placed_at, begins, blocks_from, blocks_of, standards, standard_count, last_standard, blocks_end, fills_message, request_form, right_form}
use Rattle.message.proofs.Fields.{same_but_type}
use Rattle.message.proofs.Cut.{begun, block_first}
use Rattle.message.proofs.Standards.{by_standard, last_is}
use Rattle.format.specs.declared.Format.{Format}
use Rattle.format.specs.Sizes.{Sound}

-- a number of which the byte written is none
be_untouched : (d : ℕ) (s : List ℕ) (at v j : ℕ) → ((k : ℕ) → k < 2 ^ d → j + k ≡ at → ⊥) → be d (set s at v) j ≡ be d s j
be_untouched d s at v j f = be_same d (set s at v) s j j (λ k h. get_or-set_other s at (j + k) v 0 (f k h))

module _ {F : Format} (sound : Sound F) where
  -- where the blocks and the length stay, so does all that is said of the blocks
  module _ (s t : List ℕ) (blocks : blocks_of F t ≡ blocks_of F s) (long : length t ≡ length s) where
    pub same_standards : standards F t ≡ standards F s
    unfolding standards
    same_standards = rw blocks

    pub same_request_form : request_form F t ≡ request_form F s
    unfolding fills_message blocks_end
    same_request_form = rw (blocks, long)

  -- the type byte
  module _ (s : List ℕ) (v : ℕ) where
    pub typed_blocks : blocks_of F (set s 0 v) ≡ blocks_of F s
    unfolding blocks_of
    typed_blocks = rw (drop-set-lt F.header s 0 v (omega arith))

    pub typed_standards : standards F (set s 0 v) ≡ standards F s
    typed_standards = same_standards s (set s 0 v) typed_blocks (length-set s 0 v)

    -- as the type of a Request or of a Reply, it leaves the form of a Request to be asked
    pub typed_form : 0 < length s → (v ≡ query → ⊥) → right_form F (set s 0 v) ≡ request_form F s
    unfolding right_form
    typed_form h k = rw (get_or-set_same s 0 v 0 h, ne_eqb v query k) (same_request_form s (set s 0 v) typed_blocks (length-set s 0 v))

    pub typed_header : 0 < length s → header_of (set s 0 v) ≡ retyped v (header_of s)
    typed_header h =
        same_but_type s (set s 0 v) (λ j l m. get_or-set_other s 0 j v 0 (λ e. omega arith))
        ∙ ap (λ (k : ℕ). retyped k (header_of s)) (get_or-set_same s 0 v 0 h)

  -- a byte behind the type and the length of the block that begins
  module _ (rest : List ℕ) (i v : ℕ) (behind : 3 ≤ i) where
    kind_kept : byte_at (set rest i v) 0 ≡ byte_at rest 0
    kind_kept = get_or-set_other rest i 0 v 0 (λ e. omega arith)

    size_kept : be16 (set rest i v) 1 ≡ be16 rest 1
    size_kept = be_untouched 1 rest i v 1 (λ k h e. omega arith)

    begins_kept : begins F (set rest i v) ≡ begins F rest
    unfolding begins
    begins_kept = rw (kind_kept, size_kept, length-set rest i v)

    -- what stands behind the block is what stood there, with the byte written if it lies there
    first_kept : (at : ℕ) → begins F rest ≡ true
        → blocks_from F at (set rest i v) ≡ placed_at at rest ∷ blocks_from F (at + be16 rest 1) (drop (be16 rest 1) (set rest i v))
    first_kept at b = rw (block_first sound at (set rest i v) (begins_kept ∙ b), kind_kept, size_kept)

  -- a byte behind the type and the length of a type 4 block of a message
  module _ (j v : ℕ) (behind : 3 ≤ j) (within : j < F.block) where
    record Kept (at : ℕ) (rest : List ℕ) (p : ℕ) : Type 0 where
      low : at ≤ p
      kept : blocks_from F at (set rest (p - at + j) v) ≡ blocks_from F at rest

    kept_front : (at : ℕ) (rest : List ℕ) → begins F rest ≡ true → byte_at rest 0 ≡ standard → Kept at rest at
    kept_front at rest b k =
        let place : at - at + j ≡ j = omega arith in
        record {
          low = omega arith;
          kept =
              rw (place, first_kept rest j v behind at b, drop-set-lt (be16 rest 1) rest j v (omega (arith, (begun sound rest b).standard_size k)), block_first sound at rest b);
        }

    kept_on : (at : ℕ) (rest : List ℕ) (p : ℕ) → begins F rest ≡ true → Kept (at + be16 rest 1) (drop (be16 rest 1) rest) p → Kept at rest p
    kept_on at rest p b h =
        let size : ℕ = be16 rest 1 in
        let i : ℕ = p - (at + size) + j in
        let place : p - at + j ≡ size + i = omega (arith, h.low) in
        record {
          low = omega (arith, h.low);
          kept = rw (place, first_kept rest (size + i) v (omega arith) at b, drop-set-add size rest i v, h.kept, block_first sound at rest b);
        }

    pub written-blocks : (s : List ℕ) (k : ℕ) → k < standard_count F s → blocks_of F (set s (standard_at F s k + j) v) ≡ blocks_of F s
    unfolding standards blocks_of
    written-blocks s k h =
        let rest : List ℕ = drop F.header s in
        let p : ℕ = standard_at F s k in
        let g = by_standard sound Kept kept_front kept_on F.header rest k h in
        let place : p + j ≡ F.header + (p - F.header + j) = omega (arith, g.low) in
        rw (place, drop-set-add F.header s (p - F.header + j) v) g.kept

  -- the forwarding code of the last type 4 block
  module _ (s : List ℕ) (v : ℕ) (some : 0 < standard_count F s) where
    pub coded_blocks : blocks_of F (set s (last_standard F s + F.code) v) ≡ blocks_of F s
    coded_blocks =
        rw (last_is sound s some) (written-blocks F.code v sound.code_low sound.code_high s (standard_count F s - 1) (omega arith))

    pub coded_standards : standards F (set s (last_standard F s + F.code) v) ≡ standards F s
    coded_standards = same_standards s (set s (last_standard F s + F.code) v) coded_blocks (length-set s (last_standard F s + F.code) v)
