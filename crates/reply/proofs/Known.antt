-- What an iterator over the type 4 blocks of a message hands out, and what it has left behind it.
use Prim.Native.Nat.{ℕ, ◌+◌}
use mathlib.Core.Path.{◌≡◌}
use mathlib.Core.List.{List, [], ◌∷◌}
use native.Mathlib.Omega.{arith}
use lib.ListN.{length}
use Rattle.std.specs.Prelude.{Some, None, slice_get}
use Rattle.wire.specs.Parts.{part}
use Rattle.header.specs.Format.{standard_size}
use Rattle.message.specs.Inside.{standards_from}
use Rattle.reply.specs.Inside.{first_or, FillsFrom, blocks_left}
use Rattle.reply.proofs.Places.{found_inside, found_parts}
use Rattle.reply.proofs.Search.{nothing_first}
use Rattle.reply.proofs.Settled.{settled, fills_behind}
use Rattle.format.specs.Sizes.{ipv4}

pub known_none : (s : List ℕ) (place : ℕ) → None ≡ slice_get (standards_from ipv4 s place) 0 → blocks_left s place ≡ []
unfolding blocks_left
known_none s place e = rw (nothing_first s place _ e)

-- the place that a search has come to where it found nothing: the message's end
pub none_found : (s : List ℕ) (place : ℕ) → None ≡ slice_get (standards_from ipv4 s place) 0 → length s ≡ first_or (length s) (standards_from ipv4 s place)
unfolding first_or
none_found s place e = rw (nothing_first s place _ e)

module _ (s : List ℕ) (place at : ℕ) (e : Some at ≡ slice_get (standards_from ipv4 s place) 0) where
  pub known_here : blocks_left s place ≡ part at standard_size s ∷ blocks_left s (at + standard_size)
  unfolding blocks_left
  known_here = rw (found_parts s place at e)

  -- and where it found a block: where that begins
  pub is_found : at ≡ first_or (length s) (standards_from ipv4 s place)
  unfolding first_or
  is_found = rw (found_parts s place at e)

  pub known_fills : FillsFrom s (first_or (length s) (standards_from ipv4 s place)) → FillsFrom s (at + standard_size)
  known_fills f = fills_behind s at (rw (← is_found) at f) (settled s place at is_found) (omega (arith, found_inside s place at e))
