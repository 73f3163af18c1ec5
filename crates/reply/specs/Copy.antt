-- The next block by its place, for callers that hold no reader: 52 bytes are lent for it, and all is checked at each call.
use Rattle.std.specs.Prelude.{ℕ, zero, suc, Bool, true, false, cond, ◌&&◌, ◌||◌, List, [], ◌∷◌, leb, eqb, length, take, Option, Some, None}
use Rattle.rows.specs.Rows.{by_first}
use Rattle.wire.specs.Parts.{splice}
use Rattle.header.specs.Format.{standard_size}
use Rattle.message.specs.Blocks.{Placed, blocks_of}
use Rattle.reply.specs.Check.{reply_rows}
use Rattle.reply.specs.Reader.{Handed, next_from}
use Rattle.format.specs.Sizes.{ipv4}

-- one of some blocks begins at a place
unfoldable pub begins_at : ℕ → List Placed → Bool
begins_at place [] = false
begins_at place (block ∷ others) = eqb block.at place || begins_at place others

-- a place where a block of the message begins, or its end
abbrev pub is_place : List ℕ → ℕ → Bool
is_place s place = begins_at place (blocks_of ipv4 s) || eqb place (length s)

-- a Reply that can be read
abbrev pub is_readable : List ℕ → Bool
is_readable s = by_first (λ _. false) true (reply_rows s)

-- the answer, and the bytes lent as they are left
pub record Copied : Type 0 where
  pub answer : ℕ
  pub block : List ℕ

abbrev pub copied : ℕ → List ℕ → Copied
copied answer block = record { answer = answer; block = block }

-- a block that is handed out goes over the first 52 bytes, and the answer is the place behind it; else 0, and nothing is written
abbrev pub copied_out : Handed → List ℕ → Copied
copied_out h block = let out = copied h.place (splice block 0 h.block.bytes) in cond h.found out (copied 0 block)

-- nothing is handed out either where fewer than 52 bytes are lent, of a message that cannot be read, and from any other place
unfoldable pub copied_next : List ℕ → ℕ → List ℕ → Copied
copied_next s place block =
    let out = copied_out (next_from s place) block in
    cond (leb standard_size (length block) && is_readable s && is_place s place) out (copied 0 block)

-- the answer as code has it: 0 is no place
abbrev pub place_behind : ℕ → Option ℕ
place_behind answer = cond (eqb answer 0) None (Some answer)

-- what so many calls hand out, by the first 52 bytes that each leaves: the place of each is what the one before answered, and the same bytes
-- are lent to all. An answer of 0 ends them
unfoldable pub copied_by : ℕ → List ℕ → ℕ → List ℕ → List (List ℕ)
copied_by zero s place block = []
copied_by (suc calls) s place block =
    let c = copied_next s place block in
    let later = copied_by calls s c.answer c.block in
    cond (eqb c.answer 0) [] (take standard_size c.block ∷ later)
