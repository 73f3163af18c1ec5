-- A search for a type 4 block that answers a place in any case: one where a block begins, or the message's end.
use Prim.Native.Nat.{ℕ, ◌+◌, ◌≤◌, ◌<◌}
use mathlib.Core.Path.{◌≡◌, refl, sym, ap, ◌∙◌}
use mathlib.Core.List.{List, [], ◌∷◌}
use mathlib.Core.Logic.{⊎_elim}
use native.Mathlib.Omega.{arith}
use lib.Dec.{eqb}
use lib.ListN.{length, get_or}
use Rattle.rows.proofs.Laws.{decided}
use Rattle.wire.specs.Numbers.{be16}
use Rattle.header.specs.Format.{standard, standard_size}
use Rattle.message.specs.Inside.{no_block, block_at, standards_from}
use Rattle.message.proofs.Laws.{standards_over, standards_same, none_short, size_standard, first_low, first_inside, first_same, first_parts}
use Rattle.reply.specs.Inside.{first_or, Settled, FillsFrom}
use Rattle.reply.proofs.Places.{none_or_some}
use Rattle.reply.proofs.Filled.{size_read, fills_on, not_empty}
use Rattle.format.specs.Sizes.{ipv4, ipv4_sound}

first_none : (none : ℕ) (places : List ℕ) → places ≡ [] → first_or none places ≡ none
unfolding first_or
first_none none places e = rw e

first_some : (none : ℕ) (places : List ℕ) → 0 < length places → first_or none places ≡ get_or places 0 0
unfolding first_or
first_some none [] h = absurd (omega arith)
first_some none (x ∷ places) h = refl

-- at the end there is no block
pub end_none : (s : List ℕ) → standards_from ipv4 s (length s) ≡ []
end_none s = standards_over ipv4_sound s (length s) no_block (none_short ipv4_sound s (length s) (omega arith)) refl

-- a search comes to a place at or after the one that it began at, and the blocks from there on are the same
module _ (s : List ℕ) (place at : ℕ) (e : at ≡ first_or (length s) (standards_from ipv4 s place)) where
  pub settled_same : standards_from ipv4 s at ≡ standards_from ipv4 s place
  settled_same =
      ⊎_elim
      (λ none. rw (e, first_none (length s) _ none, end_none s) (sym none))
      (λ some. rw (e, first_some (length s) _ some) (sym (first_same ipv4_sound s place some)))
      (none_or_some (standards_from ipv4 s place))

  pub settled : Settled s at
  settled = e ∙ ap (first_or (length s)) (sym settled_same)

  pub settled_forth : place ≤ length s → place ≤ at
  settled_forth h =
      ⊎_elim
      (λ none. rw (e, first_none (length s) _ none) h)
      (λ some. rw (e, first_some (length s) _ some) (first_low ipv4_sound s place some))
      (none_or_some (standards_from ipv4 s place))

-- where it is the end no block is left; else one begins there
module _ (s : List ℕ) (at : ℕ) (e : Settled s at) where
  is_first : 0 < length (standards_from ipv4 s at) → at ≡ get_or (standards_from ipv4 s at) 0 0
  is_first some = e ∙ first_some (length s) _ some

  is_last : standards_from ipv4 s at ≡ [] → at ≡ length s
  is_last none = e ∙ first_none (length s) _ none

  pub settled_over : length s ≤ at → standards_from ipv4 s at ≡ []
  settled_over h =
      ⊎_elim (λ none. none) (λ some. absurd (omega (arith, is_first some, first_inside ipv4_sound s at some))) (none_or_some (standards_from ipv4 s at))

  some_left : at < length s → 0 < length (standards_from ipv4 s at)
  some_left h = ⊎_elim (λ none. absurd (omega (arith, is_last none))) (λ some. some) (none_or_some (standards_from ipv4 s at))

  pub settled_inside : at < length s → at + standard_size ≤ length s
  settled_inside h = rw (is_first (some_left h)) (first_inside ipv4_sound s at (some_left h))

  pub settled_more : at < length s → standards_from ipv4 s at ≡ at ∷ standards_from ipv4 s (at + standard_size)
  settled_more h =
      let some = some_left h in
      first_parts ipv4_sound s at some ∙ ap (λ (p : ℕ). p ∷ standards_from ipv4 s (p + standard_size)) (sym (is_first some))

  pub settled_high : at ≤ length s
  settled_high =
      ⊎_elim
      (λ none. omega (arith, is_last none))
      (λ some. omega (arith, is_first some, first_inside ipv4_sound s at some))
      (none_or_some (standards_from ipv4 s at))

-- behind a type 4 block that a search came to
pub fills_behind : (s : List ℕ) (at : ℕ) → FillsFrom s at → Settled s at → at < length s → FillsFrom s (at + standard_size)
fills_behind s at f settled low =
    ⊎_elim
    (λ e.
    let size : be16 s (at + 1) ≡ standard_size = sym (size_read s at f low) ∙ size_standard ipv4_sound s at (block_at ipv4 s at) refl (not_empty s at f low) e in
    rw size at (fills_on s at f low))
    (λ e.
    let later : standards_from ipv4 s at ≡ standards_from ipv4 s (at + (block_at ipv4 s at).size) = standards_same ipv4_sound s at (block_at ipv4 s at) refl (not_empty s at f low) e in
    let parts : standards_from ipv4 s (at + (block_at ipv4 s at).size) ≡ at ∷ standards_from ipv4 s (at + standard_size) = sym later ∙ settled_more s at settled low in
    let some : 0 < length (standards_from ipv4 s (at + (block_at ipv4 s at).size)) = rw parts (omega arith) in
    let first : get_or (standards_from ipv4 s (at + (block_at ipv4 s at).size)) 0 0 ≡ at = rw parts in
    absurd (omega (arith, first_low ipv4_sound s (at + (block_at ipv4 s at).size) some, not_empty s at f low)))
    (decided (eqb (block_at ipv4 s at).kind standard))
