-- Inside: what only the contracts of inner functions cite, here and in the crates above, and laws. No entry's promise rests on it, and a
-- reader of the definitions may pass it over.
use Rattle.std.specs.Prelude.{ℕ, ◌+◌, List, [], ◌∷◌, map, ◌≡◌, length, drop}
use Rattle.wire.specs.Parts.{part}
use Rattle.header.specs.Format.{standard_size}
use Rattle.message.specs.Blocks.{blocks_from, total_size}
use Rattle.message.specs.Inside.{standards_from}
use Rattle.reply.specs.declared.KnownBlocks.{KnownBlocks}
use Rattle.format.specs.Sizes.{ipv4}

-- the first of some places, or `none` where there are none
unfoldable pub first_or : ℕ → List ℕ → ℕ
first_or none [] = none
first_or none (place ∷ others) = place

-- a place that a search for a type 4 block came to: where one begins, or the end
abbrev pub Settled : List ℕ → ℕ → Type 0
Settled s at = at ≡ first_or (length s) (standards_from ipv4 s at)

-- the blocks that are cut from a place of a message go up to its end
abbrev pub FillsFrom : List ℕ → ℕ → Type 0
FillsFrom s at = at + total_size (blocks_from ipv4 at (drop at s)) ≡ length s

-- the type 4 blocks that are left from a place on, as bytes
unfoldable pub blocks_left : List ℕ → ℕ → List (List ℕ)
blocks_left s place = map (λ at. part at standard_size s) (standards_from ipv4 s place)

-- those that an iterator over them has left
abbrev pub left_of : KnownBlocks → List (List ℕ)
left_of blocks = blocks_left blocks.reply.now blocks.place
