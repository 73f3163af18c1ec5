-- Laws of a message's type 4 blocks as bytes: what a router sends has those that it received and its own behind them, and where it
-- writes a code instead, the last of them has that code.
use Prim.Native.Nat.{ℕ, zero, suc, ◌+◌, ◌-◌, ◌≤◌, ◌<◌}
use mathlib.Core.Path.{◌≡◌, refl, ap, ◌∙◌}
use mathlib.Core.List.{List, [], ◌∷◌, ◌++◌, map, map-append}
use mathlib.Core.Logic.{⊎_elim}
use native.Mathlib.Omega.{arith}
use borrow.Author.Tests.{eqb-true}
use lib.Dec.{eqb}
use lib.ListN.{length, get_or, drop, set, length-map, length-drop}
use lib.Seq.{take_all, take-append-le, drop-append-le, drop-append_seam, drop-set-lt, drop-set-add, take-set-le, take-set-lt}
use Rattle.wire.specs.Numbers.{byte_at, be16}
use Rattle.wire.specs.Parts.{part}
use Rattle.rows.proofs.Laws.{decided}
use Rattle.header.specs.Format.{standard}
use Rattle.message.specs.Inside.{standard_at, StandardBlock}
use Rattle.message.specs.Blocks.{blocks_from, blocks_of, standard_places, last_or, standards, standard_count, last_standard, standard_blocks, last_coded}
use Rattle.message.proofs.Cut.{begun, by_blocks}
use Rattle.message.proofs.Standards.{no_places, places_more, places_same, by_standard, standard_low, standard_high, last_is, last_low}
use Rattle.message.proofs.Write.{typed_standards, coded_standards}
use Rattle.message.proofs.Accept.{Accepted}
use Rattle.message.proofs.Sent.{sent-standards}
use Rattle.format.specs.declared.Format.{Format}
use Rattle.format.specs.Sizes.{Sound}

-- a part behind the type byte, one before a byte that is written, and one that it lies in
part_typed : (s : List ℕ) (v at n : ℕ) → 0 < at → part at n (set s 0 v) ≡ part at n s
part_typed s v at n h = rw (drop-set-lt at s 0 v h)

part_before : (s : List ℕ) (i v at n : ℕ) → at + n ≤ i → part at n (set s i v) ≡ part at n s
part_before s i v at n h =
    let e : i ≡ at + (i - at) = omega arith in
    rw (e, drop-set-add at s (i - at) v) (take-set-le n (drop at s) (i - at) v (omega arith))

part_within : (s : List ℕ) (j v at n : ℕ) → j < n → part at n (set s (at + j) v) ≡ set (part at n s) j v
part_within s j v at n h = rw (drop-set-add at s j v) (take-set-lt n (drop at s) j v h)

-- a part of what something was appended to
part_appended : (s more : List ℕ) (at n : ℕ) → at + n ≤ length s → part at n (s ++ more) ≡ part at n s
part_appended s more at n h =
    rw (drop-append-le at s more (omega arith)) (take-append-le n (drop at s) more (rw (length-drop at s) (omega arith)))

module _ {F : Format} (sound : Sound F) where
  -- the same at each place, and the same but for a code at the last
  module _ (f g : ℕ → List ℕ) where
    each_same : (places : List ℕ) → ((k : ℕ) → k < length places → f (get_or places k 0) ≡ g (get_or places k 0)) → map f places ≡ map g places
    each_same [] h = refl
    each_same (p ∷ places) h = rw (h 0 (omega arith), each_same places (λ k l. h (suc k) (omega arith)))

    last_coded_lem : (code : ℕ) (places : List ℕ) → 0 < length places → ((k : ℕ) → suc k < length places → f (get_or places k 0) ≡ g (get_or places k 0))
        → f (last_or 0 places) ≡ set (g (last_or 0 places)) F.code code → map f places ≡ last_coded F code (map g places)
    unfolding last_or last_coded
    last_coded_lem code [] some h e = absurd (omega arith)
    last_coded_lem code (p ∷ []) some h e = rw e
    last_coded_lem code (p ∷ q ∷ places) some h e =
        rw (h 0 (omega arith), last_coded_lem code (q ∷ places) (omega arith) (λ k l. h (suc k) (omega arith)) e)

  -- the type 4 blocks stand one behind the other
  places_from : (at : ℕ) (rest : List ℕ) (k : ℕ) → k < length (standard_places (blocks_from F at rest)) → at ≤ get_or (standard_places (blocks_from F at rest)) k 0
  places_from = by_standard sound (λ at rest p. at ≤ p) (λ at rest b k. omega arith) (λ at rest p b h. omega arith)

  Apart : List ℕ → Type 0
  Apart places = (j k : ℕ) → j < k → k < length places → get_or places j 0 + F.block ≤ get_or places k 0

  one_before : (at : ℕ) (places : List ℕ) → ((k : ℕ) → k < length places → at + F.block ≤ get_or places k 0) → Apart places → Apart (at ∷ places)
  unfolding Apart
  one_before at places low h j zero l m = absurd (omega arith)
  one_before at places low h zero (suc k) l m = low k (omega arith)
  one_before at places low h (suc j) (suc k) l m = h j k (omega arith) (omega arith)

  places_apart : (at : ℕ) (rest : List ℕ) → Apart (standard_places (blocks_from F at rest))
  unfolding Apart
  places_apart =
      by_blocks sound (λ at rest. Apart (standard_places (blocks_from F at rest)))
      (λ at rest b. rw (no_places sound at rest b) (λ j k l m. absurd (omega arith)))
      (λ at rest b h.
      ⊎_elim
      (λ e.
      let size : be16 rest 1 ≡ F.block = (begun sound rest b).standard_size (eqb-true _ _ e) in
      let later : List ℕ = standard_places (blocks_from F (at + be16 rest 1) (drop (be16 rest 1) rest)) in
      rw (places_more sound at rest b e)
      (one_before at later (λ k l. omega (arith, places_from (at + be16 rest 1) (drop (be16 rest 1) rest) k l)) h))
      (λ e. rw (places_same sound at rest b e) h)
      (decided (eqb (byte_at rest 0) standard)))

  -- of a message
  module _ (s : List ℕ) where
    -- as many as are counted
    pub standard_blocks-count : length (standard_blocks F s) ≡ standard_count F s
    unfolding standard_blocks
    standard_blocks-count = length-map (standards F s) (λ at. part at F.block s)

    apart_of : (j k : ℕ) → j < k → k < standard_count F s → standard_at F s j + F.block ≤ standard_at F s k
    unfolding standards blocks_of Apart
    apart_of = places_apart F.header (drop F.header s)

    before_last : (k : ℕ) → suc k < standard_count F s → standard_at F s k + F.block ≤ last_standard F s
    before_last k h = rw (last_is sound s (omega arith)) (apart_of k (standard_count F s - 1) (omega arith) (omega arith))

  -- what a router sends: a type written and a block appended
  module _ (s : List ℕ) (a : Accepted F s) (block : List ℕ) (b : StandardBlock F block) (v : ℕ) where
    pub sent-standard_blocks : standard_blocks F (set (s ++ block) 0 v) ≡ standard_blocks F s ++ (block ∷ [])
    unfolding standard_blocks
    sent-standard_blocks =
        let sent : ℕ → List ℕ = λ at. part at F.block (set (s ++ block) 0 v) in
        let came : ℕ → List ℕ = λ at. part at F.block s in
        let kept : map sent (standards F s) ≡ map came (standards F s) =
        each_same sent came (standards F s)
        (λ k h.
        part_typed (s ++ block) v (standard_at F s k) F.block (omega (arith, standard_low sound s k h))
        ∙ part_appended s block (standard_at F s k) F.block (standard_high sound s a.low k h)) in
        let added : sent (length s) ≡ block =
        part_typed (s ++ block) v (length s) F.block (omega (arith, a.low))
        ∙ rw (drop-append_seam s block) (take_all F.block block (omega (arith, b.long))) in
        rw (sent-standards sound s a block b v, map-append sent (standards F s) (length s ∷ []), kept, added)

  -- a type written, and a code into the last type 4 block
  module _ (s : List ℕ) (some : 0 < standard_count F s) (kind code : ℕ) where
    abbrev typed : List ℕ
    typed = set s 0 kind

    abbrev coded : List ℕ
    coded = set typed (last_standard F s + F.code) code

    places_same_coded : standards F coded ≡ standards F s
    places_same_coded =
        let same = typed_standards sound s kind in
        let there : 0 < standard_count F typed = rw same some in
        rw same at (coded_standards sound typed code there)

    pub coded_standard_blocks : standard_blocks F coded ≡ last_coded F code (standard_blocks F s)
    unfolding standard_blocks
    coded_standard_blocks =
        let sent : ℕ → List ℕ = λ at. part at F.block coded in
        let came : ℕ → List ℕ = λ at. part at F.block s in
        rw places_same_coded
        (last_coded_lem sent came code (standards F s) some
        (λ k h.
        part_before typed (last_standard F s + F.code) code (standard_at F s k) F.block (omega (arith, before_last s k h))
        ∙ part_typed s kind (standard_at F s k) F.block (omega (arith, standard_low sound s k (omega arith))))
        (part_within typed F.code code (last_standard F s) F.block (omega arith)
        ∙ ap (λ (l : List ℕ). set l F.code code) (part_typed s kind (last_standard F s) F.block (omega (arith, last_low sound s some)))))
