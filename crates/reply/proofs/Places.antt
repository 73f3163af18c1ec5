-- The first type 4 block from a place of a message on, where there is one.
use Prim.Native.Nat.{ℕ, ◌+◌, ◌≤◌, ◌<◌}
use mathlib.Core.Path.{◌≡◌, refl, sym}
use mathlib.Core.List.{List, [], ◌∷◌}
use mathlib.Core.Logic.{◌⊎◌, inl, inr}
use native.Mathlib.Omega.{arith}
use lib.ListN.{length, get_or}
use Rattle.std.specs.Prelude.{Some, slice_get}
use Rattle.std.proofs.lemmas.Option.{slice_get_within, get_or_from_slice_get}
use Rattle.header.specs.Format.{standard_size}
use Rattle.message.specs.Inside.{no_block, standards_from}
use Rattle.message.proofs.Laws.{standards_over, none_short, first_inside, first_parts}
use Rattle.format.specs.Sizes.{ipv4, ipv4_sound}

-- some places are none, or there is a first
pub none_or_some : (places : List ℕ) → (places ≡ []) ⊎ (0 < length places)
none_or_some [] = inl refl
none_or_some (x ∷ places) = inr (omega arith)

-- at the end of a message and past it there is no block
pub none_past : (s : List ℕ) (place : ℕ) → length s ≤ place → standards_from ipv4 s place ≡ []
none_past s place h = standards_over ipv4_sound s place no_block (none_short ipv4_sound s place (omega arith)) refl

-- where there is a first, it lies within, and the others are those behind it
module _ (s : List ℕ) (place at : ℕ) (e : Some at ≡ slice_get (standards_from ipv4 s place) 0) where
  some_left : 0 < length (standards_from ipv4 s place)
  some_left = slice_get_within (standards_from ipv4 s place) 0 at (sym e)

  is_first : get_or (standards_from ipv4 s place) 0 0 ≡ at
  is_first = get_or_from_slice_get (standards_from ipv4 s place) 0 at 0 (sym e)

  pub found_inside : at + standard_size ≤ length s
  found_inside = rw is_first at (first_inside ipv4_sound s place some_left)

  pub found_parts : standards_from ipv4 s place ≡ at ∷ standards_from ipv4 s (at + standard_size)
  found_parts = rw is_first at (first_parts ipv4_sound s place some_left)
