-- Inside: what only laws cite. No promise rests on it, and a reader of the definitions may pass it over.
-- Here: what a walk is without steps counted beforehand, and what is true of every walk that is not refused and that its first router
-- accepts, whatever the yard's addresses do. What messages carry is told of by their lists of type 4 blocks, never by places or
-- lengths.
use Rattle.std.specs.Prelude.{ℕ, suc, ◌+◌, ◌-◌, ◌/◌, ◌≤◌, ◌<◌, List, [], ◌∷◌, map, ◌⊎◌, ◌≡◌, length, take, get_or, Option, Some, None}
use Rattle.rows.specs.Rows.{NoneApplies}
use Rattle.written.specs.declared.Block.{Block}
use Rattle.response.specs.Fill.{block_of}
use Rattle.written.specs.Bytes.{block_bytes}
use Rattle.header.specs.Header.{header_of, retyped}
use Rattle.message.specs.Blocks.{standard_count, standard_blocks, last_coded}
use Rattle.message.specs.Room.{Full, HasRoom}
use Rattle.view.specs.View.{view_of}
use Rattle.view.specs.Room.{room_for}
use Rattle.sending.specs.Answer.{sent_on, sent_home}
use Rattle.forwarding.specs.Code.{code_no_space}
use Rattle.yard.specs.Holders.{LowestHolder, NobodyHolds}
use Rattle.yard.specs.Yard.{sheet_at}
use Rattle.yard.specs.Walk.{to_group, nobody_there, Visit, sent_at, end_of, next_of, rows_for, Walk, walk_rows}
use Rattle.format.specs.declared.Format.{Format}

-- what it means that somebody, or nobody, is the lowest router and interface holding an address
abbrev pub HolderIs : Format → List ℕ → ℕ → Option (ℕ × ℕ) → Type 0
HolderIs F yard address (Some (router, interface)) = LowestHolder F yard address router interface
HolderIs F yard address None = NobodyHolds F yard address

-- a run from a visit, with its visits, its end and the last message sent: a visit that ends otherwise than by 100 is the last, and
-- one that ends by 100 leads to the next
pub data Walks (F : Format) (yard times : List ℕ) : Visit → List Visit → ℕ → List ℕ → Type 0 where
  run_over : {v : Visit} → (end_of F yard (sent_at F yard times v) ≡ sent_on → ⊥)
      → Walks F yard times v (v ∷ []) (end_of F yard (sent_at F yard times v)) (sent_at F yard times v).message
  run_on : {v : Visit} {later : List Visit} {end : ℕ} {last : List ℕ} → end_of F yard (sent_at F yard times v) ≡ sent_on
      → Walks F yard times (next_of F yard (sent_at F yard times v)) later end last → Walks F yard times v (v ∷ later) end last

-- a walk is a run from a visit
abbrev pub RunOf : Format → List ℕ → List ℕ → Visit → Walk → Type 0
RunOf F yard times v w = Walks F yard times v w.visits w.end w.last

-- the router of a visit drops nothing
abbrev pub Accepts : Format → List ℕ → Visit → Type 0
Accepts F yard v = NoneApplies (rows_for F (sheet_at yard v.router) v.arrival)

-- a walk that is not refused, and that its first router accepts
pub record Starts (F : Format) (yard times : List ℕ) (v : Visit) (output : ℕ) : Type 0 where
  pub not_refused : NoneApplies (walk_rows F yard times v output)
  pub accepts : Accepts F yard v

-- the block that the engine's definition gives for a visit: of that router, and of the message that it received
abbrev pub block_for : Format → List ℕ → List ℕ → Visit → Block
block_for F yard times v = block_of (view_of F v.arrival (get_or times v.router 0) (sheet_at yard v.router))

-- its bytes: the block due from a visit
abbrev pub block_due : Format → List ℕ → List ℕ → Visit → List ℕ
block_due F yard times v = block_bytes (block_for F yard times v)

-- the blocks due from some visits, in their order
abbrev pub blocks_due : Format → List ℕ → List ℕ → List Visit → List (List ℕ)
blocks_due F yard times = map (block_due F yard times)

-- the room for what a visit received, on the link of that router
abbrev pub room_at : Format → List ℕ → Visit → ℕ
room_at F yard v = room_for F v.arrival (sheet_at yard v.router)

-- visit k; past the last, v
abbrev pub visit_at : Walk → Visit → ℕ → Visit
visit_at w v k = get_or w.visits k v

-- the message that it received
abbrev pub received_at : Walk → Visit → ℕ → List ℕ
received_at w v k = (visit_at w v k).arrival.message

-- the number of the last visit
abbrev pub last_visit : Walk → ℕ
last_visit w = length w.visits - 1

-- the ends of such a walk: 101, 102 or 103
abbrev pub EndsWell : ℕ → Type 0
EndsWell end = (end ≡ sent_home) ⊎ ((end ≡ to_group) ⊎ (end ≡ nobody_there))

-- what is true of the walk w from the visit v
pub record Faithful (F : Format) (yard times : List ℕ) (v : Visit) (w : Walk) : Type 0 where
  -- it ends well, within the hop number of steps
  pub end : EndsWell w.end
  pub steps : length w.visits ≤ (header_of v.arrival.message).hops
  -- the first visit is the start; each later one is where the message before it was sent; and no router drops what it receives
  pub start : get_or w.visits 0 v ≡ v
  pub follows : (k : ℕ) → suc k < length w.visits → get_or w.visits (suc k) v ≡ next_of F yard (sent_at F yard times (get_or w.visits k v))
  pub accepts : (k : ℕ) → k < length w.visits → Accepts F yard (get_or w.visits k v)
  -- each receives the Query's header, but for the type, and the blocks due from the visits before it
  pub header : (k : ℕ) → k < length w.visits → header_of (received_at w v k) ≡ retyped (header_of (received_at w v k)).kind (header_of v.arrival.message)
  pub received : (k : ℕ) → k < length w.visits → standard_blocks F (received_at w v k) ≡ blocks_due F yard times (take k w.visits)
  -- the last message: where the last router had room, the blocks due from all; where it had none, those from the visits before
  -- it, with NO_SPACE in the last of them
  pub with_room : HasRoom F (room_at F yard (visit_at w v (last_visit w))) (received_at w v (last_visit w)) → standard_blocks F w.last ≡ blocks_due F yard times w.visits
  pub without_room : Full F (room_at F yard (visit_at w v (last_visit w))) (received_at w v (last_visit w))
      → standard_blocks F w.last ≡ last_coded F code_no_space (blocks_due F yard times (take (last_visit w) w.visits))
  -- and the number of blocks that is answered is theirs
  pub count : length (standard_blocks F w.last) ≡ standard_count F w.last

-- as many steps as the longest message has blocks behind its header, and one: 28 in IPv4, whatever the links leave
abbrev pub most_steps : Format → ℕ
most_steps F = (F.most + F.block - F.header) / F.block
