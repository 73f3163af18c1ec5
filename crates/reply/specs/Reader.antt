-- What a reader hands out (document 02, M-100): one type 4 block per call, Augmented ones skipped, and after the last one nothing.
use Rattle.std.specs.Prelude.{ℕ, ◌+◌, Bool, true, false, cond, List, [], ◌∷◌, map, ◌≡◌, length, drop, Option, Some, None}
use Rattle.std.specs.Borrow.{Bor}
use Rattle.rows.specs.Rows.{by_first}
use Rattle.header.specs.Format.{header_size, standard_size}
use Rattle.message.specs.Blocks.{blocks_from, standard_places, standard_blocks}
use Rattle.standard.specs.declared.Standard.{Standard}
use Rattle.reply.specs.declared.Reader.{Reader}
use Rattle.reply.specs.Check.{reply_rows}
use Rattle.standard.specs.Standard.{standard_of, standard_in, no_standard}
use Rattle.format.specs.Sizes.{ipv4}

-- the type 4 blocks of a message, in their order
unfoldable pub standards_in : List ℕ → List Standard
standards_in s = map standard_of (standard_blocks ipv4 s)

-- those of a Reply; of what is refused none
unfoldable pub blocks_in : List ℕ → List Standard
blocks_in s = by_first (λ _. []) (standards_in s) (reply_rows s)

-- where a reader begins: at the first block; at the end of what is refused
unfoldable pub start_of : List ℕ → ℕ
start_of s = by_first (λ _. length s) header_size (reply_rows s)

-- what a call hands out: whether there was a block, the place from which the next call goes on, and the block, or zeros where none is left
pub record Handed : Type 0 where
  pub found : Bool
  pub place : ℕ
  pub block : Standard

-- as code has it: from a place, a block and the place behind it; and a block, by the place at which a reader is left
abbrev pub handed : ℕ → Option (Standard × ℕ) → Handed
handed place None = record { found = false; place = place; block = no_standard }
handed place (Some (block, behind)) = record { found = true; place = behind; block = block }

abbrev pub handed_at : ℕ → Option Standard → Handed
handed_at place None = record { found = false; place = place; block = no_standard }
handed_at place (Some block) = record { found = true; place = place; block = block }

-- one call hands out the first of the type 4 blocks that are left, by their places, and goes on behind it; where none is left nothing,
-- and the place stays
abbrev pub handed_by : List ℕ → ℕ → List ℕ → Handed
handed_by s place [] = record { found = false; place = place; block = no_standard }
handed_by s place (at ∷ left) = record { found = true; place = at + standard_size; block = standard_in s at }

-- those that are left from a place on
unfoldable pub next_from : List ℕ → ℕ → Handed
next_from s place = handed_by s place (standard_places (blocks_from ipv4 place (drop place s)))

-- a reader is opened on a message: it holds that message, and begins there
pub record Opens (reply : Bor (List ℕ)) (r : Reader) : Type 0 where
  pub holds : r.reply ≡ reply
  pub begins : r.place ≡ start_of reply.now

-- it is called: what it hands out, and the reader as it is left. The message that it holds stays
pub record Hands (r : Reader) (h : Handed) (left : Reader) : Type 0 where
  pub hands : h ≡ next_from r.reply.now r.place
  pub holds : left.reply ≡ r.reply
  pub goes_on : left.place ≡ h.place

-- and called again, so often: from a reader, by what each call hands out, to the reader as the last one leaves it
pub data Calls : Reader → List Handed → Reader → Type 0 where
  not_again : {r : Reader} → Calls r [] r
  again : {r next left : Reader} {h : Handed} {hs : List Handed} → Hands r h next → Calls next hs left → Calls r (h ∷ hs) left

-- the blocks among what was handed out
unfoldable pub blocks_out : List Handed → List Standard
blocks_out [] = []
blocks_out (h ∷ hs) = let later = blocks_out hs in cond h.found (h.block ∷ later) later
