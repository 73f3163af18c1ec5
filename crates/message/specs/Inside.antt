-- Inside: what only the contracts of inner functions cite, here and in the crates above, and laws. No entry's promise rests on it, and a
-- reader of the definitions may pass it over.
use Rattle.std.specs.Prelude.{ℕ, List, ◌≡◌, Bool, cond, eqb, length, get_or, drop, Option, Some, None, Result, Ok, Err}
use Rattle.wire.specs.Numbers.{byte_at, be16}
use Rattle.rows.specs.Rows.{by_first}
use Rattle.header.specs.declared.Header.{Header}
use Rattle.message.specs.declared.Blocks.{Blocks}
use Rattle.message.specs.declared.BlockHead.{BlockHead}
use Rattle.message.specs.declared.Accepted.{Accepted}
use Rattle.refusal.specs.declared.Refusal.{Refusal}
use Rattle.refusal.specs.Refusal.{number}
use Rattle.header.specs.declared.BlockKind.{BlockKind}
use Rattle.header.specs.declared.BlockKind.TheVariants.{Standard, Augmented}
use Rattle.header.specs.Format.{standard, augmented}
use Rattle.header.specs.Header.{header_of}
use Rattle.message.specs.Blocks.{begins, blocks_from, standard_places, standards, blocks_end, standard_count, last_standard}
use Rattle.message.specs.Check.{message_rows}
use Rattle.format.specs.declared.Format.{Format}

-- the place of type 4 block k, counted from 0
abbrev pub standard_at : Format → List ℕ → ℕ → ℕ
standard_at F s k = get_or (standards F s) k 0

-- the bytes of a type 4 block: as many as the format says, which begin with its type and its length
pub record StandardBlock (F : Format) (bytes : List ℕ) : Type 0 where
  pub long : length bytes ≡ F.block
  pub kind : byte_at bytes 0 ≡ standard
  pub size : be16 bytes 1 ≡ F.block

-- the type and the length of a block; 0 and 0 for none
pub record Head : Type 0 where
  pub kind : ℕ
  pub size : ℕ

abbrev pub no_block : Head
no_block = record { kind = 0; size = 0 }

-- the type that a kind stands for
abbrev pub type_of : BlockKind → ℕ
type_of Standard = standard
type_of Augmented = augmented

-- as code has them
abbrev pub head_of : Option BlockHead → Head
head_of None = no_block
head_of (Some block) = record { kind = type_of block.kind; size = block.size }

-- a block is of type 4
abbrev pub is_standard : Head → Bool
is_standard block = eqb block.kind standard

-- the length of one of type 5; any other has none
abbrev pub augmented_size : Head → Option ℕ
augmented_size block = cond (eqb block.kind augmented) (Some block.size) None

-- the type and the length of the block that begins at a place, where one does
unfoldable pub block_at : Format → List ℕ → ℕ → Head
block_at F s at =
    let block : Head = record { kind = byte_at (drop at s) 0; size = be16 (drop at s) 1 } in cond (begins F (drop at s)) block no_block

-- the places of the type 4 blocks from a place on
unfoldable pub standards_from : Format → List ℕ → ℕ → List ℕ
standards_from F s at = standard_places (blocks_from F at (drop at s))

-- where the blocks of a message end, how many are of type 4, and the last of those
unfoldable pub blocks_seen : Format → List ℕ → Blocks
blocks_seen F s = record { end = blocks_end F s; count = standard_count F s; last = last_standard F s }

-- a header of zeros
abbrev pub no_header : Header
no_header = record { kind = 0; length = 0; hops = 0; group = 0; source = 0; client = 0; id = 0; port = 0 }

-- blocks of which nothing was seen
abbrev pub no_blocks : Blocks
no_blocks = record { end = 0; count = 0; last = 0 }

-- what a check finds: the number, 0 for an accepted message, and its header and its blocks
pub record Checked : Type 0 where
  pub number : ℕ
  pub header : Header
  pub blocks : Blocks

-- a refused message has its number, and zeros for all else
unfoldable pub refused_message : ℕ → Checked
refused_message number = record { number = number; header = no_header; blocks = no_blocks }

-- an accepted one has number 0, its header, and what was seen of its blocks
unfoldable pub accepted_message : Format → List ℕ → Checked
accepted_message F s = record { number = 0; header = header_of s; blocks = blocks_seen F s }

-- as code has it
abbrev pub checked_of : Result Accepted Refusal → Checked
checked_of (Ok m) = record { number = 0; header = m.header; blocks = m.blocks }
checked_of (Err refusal) = refused_message (number refusal)

-- what the check answers
unfoldable pub check_of : Format → List ℕ → Checked
check_of F s = by_first refused_message (accepted_message F s) (message_rows F s)
