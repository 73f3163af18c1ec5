-- Laws of appending a type 4 block to a message whose blocks fill it, be it a Query, a Request or a Reply: there is one block
-- more, it is the last, and the blocks and the header before it stay.
use Prim.Native.Nat.{ℕ, ◌+◌, ◌≤◌}
use mathlib.Core.Path.{◌≡◌, refl}
use mathlib.Core.Bool.{true, false}
use mathlib.Core.List.{List, [], ◌∷◌, ◌++◌}
use mathlib.Core.Logic.{◌⊎◌, inl, inr, ⊎_elim}
use native.Mathlib.Omega.{arith}
use native.Mathlib.Nat.{add-zero}
use borrow.Author.Tests.{le-leb, eq-eqb, ne_eqb, eqb-true, eqb-false}
use lib.Dec.{eqb}
use lib.ListN.{length, drop, length-append, length-drop, get_or-append}
use lib.Seq.{drop-append-le}
use Rattle.wire.specs.Numbers.{byte_at, be16}
use Rattle.wire.proofs.Laws.{be_first}
use Rattle.header.specs.Format.{query, standard}
use Rattle.header.specs.Header.{header_of}
use Rattle.message.specs.Inside.{StandardBlock}
use Rattle.message.specs.Blocks.{Placed, begins, right_size, fits_in, blocks_from, blocks_of, total_size, standard_places, standards, standard_count, blocks_end, standard_first, fills_message, request_form, right_form}
use Rattle.rows.proofs.Laws.{decided, both_of}
use Rattle.message.proofs.Cut.{begun, too_short, no_blocks_lem, block_first, by_blocks}
use Rattle.message.proofs.Turns.{standard_more, standard_same}
use Rattle.message.proofs.Fields.{same_header}
use Rattle.message.proofs.Rows.{header_alone}
use Rattle.format.specs.declared.Format.{Format}
use Rattle.format.specs.Sizes.{Sound}

-- the block that appending makes
abbrev pub new_block : Format → ℕ → Placed
new_block F at = record { at = at; kind = standard; size = F.block }

-- one block more, seen by each of the definitions over a list of blocks
total_more : (blocks : List Placed) (block : Placed) → total_size (blocks ++ (block ∷ [])) ≡ total_size blocks + block.size
unfolding total_size
total_more [] block = omega arith
total_more (x ∷ blocks) block = rw (total_more blocks block) (omega arith)

module _ {F : Format} (sound : Sound F) where
  -- a block that begins still begins when bytes are appended
  begins_still : (rest more : List ℕ) → begins F rest ≡ true → begins F (rest ++ more) ≡ true
  unfolding begins fits_in
  begins_still rest more e =
      let b = begun sound rest e in
      let right : right_size F (byte_at rest 0) (be16 rest 1) ≡ true = (both_of (right_size F (byte_at rest 0) (be16 rest 1)) _ e).0 in
      let room : be16 rest 1 ≤ length rest + length more = omega (arith, b.inside) in
      rw (
        get_or-append rest more 0 0 (omega (arith, b.least, b.inside)),
        be_first 1 rest more 1 (omega (arith, b.least, b.inside)),
        length-append rest more,
        right,
        le-leb _ _ room,
      )

  -- a type 4 block begins
  standard-begins : (block : List ℕ) → StandardBlock F block → begins F block ≡ true
  unfolding begins fits_in
  standard-begins block b = rw (b.kind, b.size, b.long, eq-eqb F.block F.block refl, le-leb F.block F.block (omega arith))

  module _ (block : List ℕ) (b : StandardBlock F block) where
    alone : (at : ℕ) → blocks_from F at block ≡ new_block F at ∷ []
    alone at =
        let none : begins F (drop F.block block) ≡ false = too_short sound (drop F.block block) (rw (length-drop F.block block, b.long) (omega arith)) in
        rw (block_first sound at block (standard-begins block b), b.kind, b.size, no_blocks_lem sound (at + F.block) (drop F.block block) none)

    abbrev Grows : ℕ → List ℕ → Type 0
    Grows at rest = total_size (blocks_from F at rest) ≡ length rest → blocks_from F at (rest ++ block) ≡ blocks_from F at rest ++ (new_block F (at + length rest) ∷ [])

    grows_none : (at : ℕ) (rest : List ℕ) → begins F rest ≡ false → Grows at rest
    unfolding total_size
    grows_none at [] e = λ t. rw (no_blocks_lem sound at [] e, add-zero) (alone at)
    grows_none at (x ∷ rest) e = rw (no_blocks_lem sound at (x ∷ rest) e) (λ t. absurd (omega arith))

    grows_on : (at : ℕ) (rest : List ℕ) → begins F rest ≡ true → Grows (at + be16 rest 1) (drop (be16 rest 1) rest) → Grows at rest
    unfolding total_size
    grows_on at rest e h t =
        let g = begun sound rest e in
        let size : ℕ = be16 rest 1 in
        let left : total_size (blocks_from F (at + size) (drop size rest)) ≡ length (drop size rest) =
        rw (length-drop size rest) (omega (arith, rw (block_first sound at rest e) at t)) in
        let far : at + size + length (drop size rest) ≡ at + length rest = rw (length-drop size rest) (omega (arith, g.inside)) in
        rw (
          block_first sound at (rest ++ block) (begins_still rest block e),
          get_or-append rest block 0 0 (omega (arith, g.least, g.inside)),
          be_first 1 rest block 1 (omega (arith, g.least, g.inside)),
          drop-append-le size rest block g.inside,
          h left,
          far,
          block_first sound at rest e,
        )

    grows : (at : ℕ) (rest : List ℕ) → Grows at rest
    grows = by_blocks sound Grows grows_none grows_on

  places_on : (x : Placed) (blocks : List Placed) (at : ℕ) → standard_places (blocks ++ (new_block F at ∷ [])) ≡ standard_places blocks ++ (at ∷ [])
      → standard_places (x ∷ (blocks ++ (new_block F at ∷ []))) ≡ standard_places (x ∷ blocks) ++ (at ∷ [])
  places_on x blocks at h =
      ⊎_elim
      (λ e. rw (standard_more x (blocks ++ (new_block F at ∷ [])) e, standard_more x blocks e, h))
      (λ e. rw (standard_same x (blocks ++ (new_block F at ∷ [])) e, standard_same x blocks e, h))
      (decided (eqb x.kind standard))

  places_more : (blocks : List Placed) (at : ℕ) → standard_places (blocks ++ (new_block F at ∷ [])) ≡ standard_places blocks ++ (at ∷ [])
  unfolding standard_places
  places_more [] at = refl
  places_more (x ∷ blocks) at = places_on x blocks at (places_more blocks at)

  first_still : (blocks others : List Placed) → standard_first blocks ≡ true → standard_first (blocks ++ others) ≡ true
  unfolding standard_first
  first_still [] others e = let z : ◌≡◌ {A = ℕ} 0 1 = cc in absurd (omega arith)
  first_still (x ∷ blocks) others e = e

  filled : (s : List ℕ) → fills_message F s ≡ true → F.header + total_size (blocks_of F s) ≡ length s
  unfolding fills_message blocks_end
  filled s e = eqb-true _ _ e

  -- of a message
  module _ (s block : List ℕ) (low : F.header ≤ length s) (full : fills_message F s ≡ true) (b : StandardBlock F block) where
    pub append-blocks : blocks_of F (s ++ block) ≡ blocks_of F s ++ (new_block F (length s) ∷ [])
    unfolding blocks_of
    append-blocks =
        let rest : List ℕ = drop F.header s in
        let whole : total_size (blocks_from F F.header rest) ≡ length rest = rw (length-drop F.header s) (omega (arith, filled s full)) in
        let place : F.header + length rest ≡ length s = rw (length-drop F.header s) (omega arith) in
        rw (drop-append-le F.header s block low, grows block b F.header rest whole, place)

    pub append_fills : fills_message F (s ++ block) ≡ true
    unfolding fills_message blocks_end
    append_fills =
        eq-eqb (F.header + total_size (blocks_of F (s ++ block))) (length (s ++ block))
        (rw (append-blocks, total_more (blocks_of F s) (new_block F (length s)), length-append s block, b.long) (omega (arith, filled s full)))

    -- the places of its type 4 blocks are the old ones and its old length
    pub append-standards : standards F (s ++ block) ≡ standards F s ++ (length s ∷ [])
    unfolding standards
    append-standards = rw append-blocks (places_more (blocks_of F s) (length s))

    pub append-count : standard_count F (s ++ block) ≡ standard_count F s + 1
    append-count = rw append-standards (length-append (standards F s) (length s ∷ []))

  -- the two forms: a Query is a header alone, any other message has the form of a Request
  module _ (s : List ℕ) (form : right_form F s ≡ true) where
    pub query_alone : byte_at s 0 ≡ query → length s ≡ F.header
    unfolding right_form
    query_alone k = eqb-true _ _ (rw (eq-eqb (byte_at s 0) query k) at form)

    pub request_formed : (byte_at s 0 ≡ query → ⊥) → request_form F s ≡ true
    unfolding right_form
    request_formed k = rw (ne_eqb (byte_at s 0) query k) at form

    form_cases : (length s ≡ F.header) ⊎ (request_form F s ≡ true)
    form_cases =
        ⊎_elim (λ e. inl (query_alone (eqb-true _ _ e))) (λ e. inr (request_formed (eqb-false _ _ e))) (decided (eqb (byte_at s 0) query))

    -- in both the blocks fill the message
    pub right_form_fills : fills_message F s ≡ true
    unfolding fills_message blocks_end total_size
    right_form_fills =
        ⊎_elim (λ e. rw (header_alone sound s e, e, add-zero, eq-eqb F.header F.header refl)) (λ e. (both_of (fills_message F s) _ e).0) form_cases

    -- and with a block appended both have the form of a Request and of a Reply
    pub append-right_form : (block : List ℕ) → F.header ≤ length s → StandardBlock F block → request_form F (s ++ block) ≡ true
    unfolding standard_first
    append-right_form block low b =
        rw (append_fills s block low right_form_fills b, append-blocks s block low right_form_fills b)
        (⊎_elim (λ e. rw (header_alone sound s e)) (λ e. first_still (blocks_of F s) _ (both_of (fills_message F s) _ e).1) form_cases)

  -- the header stays whatever is appended
  pub append-header : (s more : List ℕ) → F.header ≤ length s → header_of (s ++ more) ≡ header_of s
  append-header s more low = same_header s (s ++ more) (λ j h. get_or-append s more 0 j (omega arith))
