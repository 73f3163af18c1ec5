-- A reader hands out the type 4 blocks that are left, in their order, each once, and then nothing.
use Prim.Native.Nat.{ℕ, suc, ◌+◌, ◌<◌}
use mathlib.Core.Path.{◌≡◌, refl, sym, ap, ◌∙◌}
use mathlib.Core.Bool.{cond}
use mathlib.Core.List.{List, [], ◌∷◌, map}
use mathlib.Core.Logic.{⊎_elim}
use native.Mathlib.Omega.{arith}
use lib.ListN.{length, get_or, take, drop}
use lib.Seq.{take_all}
use denote.Ref.{Bor}
use Rattle.wire.specs.Parts.{part}
use Rattle.header.specs.Format.{header_size, standard_size}
use Rattle.message.specs.Blocks.{standards, standard_blocks}
use Rattle.message.specs.Inside.{standards_from}
use Rattle.message.proofs.Laws.{all_standards, first_parts}
use Rattle.reply.proofs.Places.{none_past}
use Rattle.rows.specs.Rows.{first_of}
use Rattle.rows.proofs.Laws.{first_or_none, first_is, none_is}
use Rattle.standard.specs.declared.Standard.{Standard}
use Rattle.reply.specs.declared.Reader.{Reader}
use Rattle.standard.specs.Standard.{standard_of, standard_in}
use Rattle.reply.specs.Check.{reply_rows, Readable}
use Rattle.reply.specs.Reader.{Handed, standards_in, blocks_in, start_of, handed_by, next_from, Opens, Calls, not_again, again, blocks_out}
use Rattle.format.specs.Sizes.{ipv4, ipv4_sound}

-- the blocks left from a place on
abbrev pub left_from : List ℕ → ℕ → List Standard
left_from s place = map (standard_in s) (standards_from ipv4 s place)

-- what one call hands out, and those after it
module _ (s : List ℕ) (place calls : ℕ) where
  handed_left : (places : List ℕ) (later : List Standard) → places ≡ standards_from ipv4 s place → later ≡ take calls (left_from s (handed_by s place places).place)
      → (0 < length places → places ≡ get_or places 0 0 ∷ standards_from ipv4 s (get_or places 0 0 + standard_size))
      → cond (handed_by s place places).found ((handed_by s place places).block ∷ later) later ≡ take (suc calls) (map (standard_in s) places)
  handed_left [] later p e parts = e ∙ ap (λ (l : List ℕ). take calls (map (standard_in s) l)) (sym p) ∙ take_all calls [] (omega arith)
  handed_left (at ∷ places) later p e parts =
      let behind : places ≡ standards_from ipv4 s (at + standard_size) = ap (drop 1) (parts (omega arith)) in
      ap (λ (l : List Standard). standard_in s at ∷ l) (e ∙ rw behind)

  next_left : (later : List Standard) → later ≡ take calls (left_from s (next_from s place).place)
      → cond (next_from s place).found ((next_from s place).block ∷ later) later ≡ take (suc calls) (left_from s place)
  unfolding next_from standards_from
  next_left later e = handed_left (standards_from ipv4 s place) later refl e (first_parts ipv4_sound s place)

-- so many calls hand out so many of the blocks left
calls_left : (r : Reader) (hs : List Handed) (left : Reader) → Calls r hs left
    → (blocks_out hs ≡ take (length hs) (left_from r.reply.now r.place)) × (left.reply ≡ r.reply)
unfolding blocks_out
calls_left r hs left not_again = (refl, refl)
calls_left r (h ∷ hs) left (again {next = next} a c) =
    let later = calls_left next hs left c in
    let s : List ℕ = r.reply.now in
    let from : blocks_out hs ≡ take (length hs) (left_from s (next_from s r.place).place) =
    later.0 ∙ rw (a.holds, a.goes_on, a.hands) in
    (rw a.hands (next_left s r.place (length hs) (blocks_out hs) from), later.1 ∙ a.holds)

-- the blocks from the first place on are all of them
pub left_all : (s : List ℕ) → left_from s header_size ≡ standards_in s
unfolding standards_in standard_blocks
left_all s = rw (← all_standards ipv4_sound s) (sym (maps (standards ipv4 s)))
  where
    maps : (l : List ℕ) → map standard_of (map (λ at. part at standard_size s) l) ≡ map (standard_in s) l
    maps [] = refl
    maps (x ∷ l) = ap (λ (r : List Standard). standard_in s x ∷ r) (maps l)

-- where a reader begins all blocks are left; of what is refused there are none
start_left : (s : List ℕ) → left_from s (start_of s) ≡ blocks_in s
unfolding start_of blocks_in
start_left s =
    ⊎_elim
    (λ f.
    let n : ℕ = first_of (reply_rows s) in
    rw (first_is (λ _. length s) header_size (reply_rows s) n f, first_is (λ _. []) (standards_in s) (reply_rows s) n f, none_past s (length s) (omega arith)))
    (λ none. rw (none_is (λ _. length s) header_size (reply_rows s) none, none_is (λ _. []) (standards_in s) (reply_rows s) none) (left_all s))
    (first_or_none (reply_rows s))

-- the calls of a reader hand out the blocks of the message that it was opened on: in their order, each once, and then nothing; and it
-- holds that message still
pub reads_all : (reply : Bor (List ℕ)) (r left : Reader) (hs : List Handed) → Opens reply r → Calls r hs left
    → (blocks_out hs ≡ take (length hs) (blocks_in reply.now)) × (left.reply ≡ reply)
reads_all reply r left hs o c =
    let read = calls_left r hs left c in
    (read.0 ∙ rw (o.holds, o.begins, start_left reply.now), read.1 ∙ o.holds)

-- the blocks of a Reply that can be read are its type 4 blocks
pub readable_blocks : (s : List ℕ) → Readable s → blocks_in s ≡ standards_in s
unfolding blocks_in
readable_blocks s none = none_is (λ _. []) (standards_in s) (reply_rows s) none
