-- The blocks behind the header (document 01, "Messages"): a message is cut into blocks by stepping from each to the next by
-- its length, and all that is said of blocks is said of that list.
use Rattle.std.specs.Prelude.{ℕ, zero, suc, ◌+◌, ◌%◌, Bool, false, cond, ◌&&◌, ◌||◌, List, [], ◌∷◌, map, leb, eqb, length, drop, set}
use Rattle.wire.specs.Numbers.{byte_at, be16}
use Rattle.wire.specs.Parts.{part}
use Rattle.header.specs.Format.{query, standard, augmented, augmented_unit}
use Rattle.format.specs.Sizes.{augmented_least}
use Rattle.format.specs.declared.Format.{Format}

-- a block of a message: its place, its type, and its whole length
pub record Placed : Type 0 where
  pub at : ℕ
  pub kind : ℕ
  pub size : ℕ

-- type 4 has the length of its format (52 bytes in IPv4), type 5 at least 8 and a multiple of 4, and there is no other type
abbrev pub right_size : Format → ℕ → ℕ → Bool
right_size F kind size =
    (eqb kind standard && eqb size F.block)
    || (eqb kind augmented && leb augmented_least size && eqb (size % augmented_unit) 0)

-- a block of that type and length that does not run past the bytes that are left
unfoldable pub fits_in : Format → ℕ → ℕ → ℕ → Bool
fits_in F kind size left = right_size F kind size && leb size left

-- the block that `rest`, the bytes of a message from a place on, should begin with: type (1 byte), length (2 bytes)
abbrev pub placed_at : ℕ → List ℕ → Placed
placed_at at rest = record { at = at; kind = byte_at rest 0; size = be16 rest 1 }

-- whether it does: no block is so short that it fits where fewer than 3 bytes are left
unfoldable pub begins : Format → List ℕ → Bool
begins F rest = fits_in F (byte_at rest 0) (be16 rest 1) (length rest)

-- the blocks that `rest` begins with, as far as they go, in at most so many turns
unfoldable pub blocks_by : Format → ℕ → ℕ → List ℕ → List Placed
blocks_by F zero at rest = []
blocks_by F (suc turns) at rest =
    let block : Placed = placed_at at rest in
    let others : List Placed = blocks_by F turns (at + block.size) (drop block.size rest) in
    cond (begins F rest) (block ∷ others) []

-- the same in as many turns as there are bytes, which are enough
unfoldable pub blocks_from : Format → ℕ → List ℕ → List Placed
blocks_from F at rest = blocks_by F (length rest) at rest

-- the blocks of a message
unfoldable pub blocks_of : Format → List ℕ → List Placed
blocks_of F s = blocks_from F F.header (drop F.header s)

-- the bytes of some blocks together
unfoldable pub total_size : List Placed → ℕ
total_size [] = 0
total_size (block ∷ others) = block.size + total_size others

-- the places of those of type 4. Augmented blocks are carried and not counted.
unfoldable pub standard_places : List Placed → List ℕ
standard_places [] = []
standard_places (block ∷ others) =
    let places : List ℕ = standard_places others in
    cond (eqb block.kind standard) (block.at ∷ places) places

-- the last of some places, or `none` where there are none
unfoldable pub last_or : ℕ → List ℕ → ℕ
last_or none [] = none
last_or none (place ∷ others) = last_or place others

-- the places of a message's type 4 blocks
unfoldable pub standards : Format → List ℕ → List ℕ
standards F s = standard_places (blocks_of F s)

-- how many they are
abbrev pub standard_count : Format → List ℕ → ℕ
standard_count F s = length (standards F s)

-- the place of the last of them, 0 where there are none
abbrev pub last_standard : Format → List ℕ → ℕ
last_standard F s = last_or 0 (standards F s)

-- where the blocks end
unfoldable pub blocks_end : Format → List ℕ → ℕ
blocks_end F s = F.header + total_size (blocks_of F s)

-- there are blocks, and the first is of type 4
unfoldable pub standard_first : List Placed → Bool
standard_first [] = false
standard_first (block ∷ others) = eqb block.kind standard

-- the blocks fill the message
unfoldable pub fills_message : Format → List ℕ → Bool
fills_message F s = eqb (blocks_end F s) (length s)

-- a Query is a header alone
abbrev pub query_form : Format → List ℕ → Bool
query_form F s = eqb (length s) F.header

-- a Request or Reply is a header and then one or more blocks of type 4 or 5 that fill the message, the first of type 4
abbrev pub request_form : Format → List ℕ → Bool
request_form F s = fills_message F s && standard_first (blocks_of F s)

-- what follows the header keeps the rules of the message's type
unfoldable pub right_form : Format → List ℕ → Bool
right_form F s = cond (eqb (byte_at s 0) query) (query_form F s) (request_form F s)

-- the type 4 blocks of a message as bytes, in their order
unfoldable pub standard_blocks : Format → List ℕ → List (List ℕ)
standard_blocks F s = map (λ at. part at F.block s) (standards F s)

-- some blocks, with a forwarding code written into the last of them
unfoldable pub last_coded : Format → ℕ → List (List ℕ) → List (List ℕ)
last_coded F code [] = []
last_coded F code (block ∷ []) = set block F.code code ∷ []
last_coded F code (block ∷ other ∷ others) = block ∷ last_coded F code (other ∷ others)
