-- Demand 3 of document 01, of ANY walk through ANY engine: the walk is a run of visits, each of which leads to the next until one
-- does not; what it answers is that run's; and a trace that its first router accepts ends in time and tells the truth.
use Rattle.std.specs.Prelude.{ℕ, suc, ◌-◌, ◌≤◌, ◌<◌, true, false, List, [], ◌∷◌, ◌⊎◌, ◌≡◌, length, take, get_or, set}
use Rattle.rows.specs.Rows.{NoneApplies, IsFirst}
use Rattle.wire.specs.Numbers.{be16, be32}
use Rattle.wire.specs.Parts.{splice, blank}
use Rattle.address.specs.Addresses.{multicast}
use Rattle.recent.specs.Entries.{empty}
use Rattle.written.specs.declared.Block.{Block}
use Rattle.forwarding.specs.Code.{code_no_space}
use Rattle.written.specs.Bytes.{block_bytes}
use Rattle.header.specs.Format.{most, code_offset, note_size}
use Rattle.header.specs.Header.{header_of}
use Rattle.message.specs.Blocks.{standard_count, standard_blocks}
use Rattle.message.specs.Room.{Full, HasRoom}
use Rattle.drops.specs.Arrival.{arrival}
use Rattle.drops.specs.Drop.{near_ttl}
use Rattle.sending.specs.Answer.{sent_on, sent_home}
use Rattle.engine.specs.Step.{Outcome}
use Rattle.yard.specs.Yard.{sheet_at}
use Rattle.yard.specs.Walk.{Walked, to_group, nobody_there, Visit, visit, walk_rows}
use Rattle.yard.specs.Holders.{LowestHolder, NobodyHolds}
use Rattle.demands.specs.Engine.{Engine, Call, run, rows, room, BlockOf}
use Rattle.format.specs.Sizes.{ipv4, output_size}

-- what a walk answers, and the output as it is left
pub record Told : Type 0 where
  pub answer : Walked
  pub output : List ℕ

-- a walk: from the yard, the times, the start and the output lent to it
abbrev pub Walker : Type 0
Walker = List ℕ → List ℕ → Visit → List ℕ → Told

-- end, steps, blocks and length; the output begins with the last message sent, and its bytes past that stay
abbrev pub told : ℕ → ℕ → List ℕ → List ℕ → Told
told end steps last output =
    record { answer = record { end = end; steps = steps; blocks = standard_count ipv4 last; length = length last }; output = splice output 0 last }

-- the call at a visit: the router's sheet and time, an empty recent list, and output and record of zeros
abbrev pub call_at : List ℕ → List ℕ → Visit → Call
call_at yard times v =
    record {
      arrival = v.arrival;
      time = get_or times v.router 0;
      sheet = sheet_at yard v.router;
      recent = empty;
      output = blank output_size;
      note = blank note_size;
    }

-- what a call sent, as long as its record says, and where to; nothing where it dropped
abbrev pub sent : Outcome → List ℕ
sent o = take (be16 o.note 0) o.output

abbrev pub to : Outcome → ℕ
to o = be32 o.note 2

module _ (engine : Engine) (yard times : List ℕ) where
  -- what the engine does at a visit
  abbrev pub did : Visit → Outcome
  did v = run engine (call_at yard times v)

  -- a run from a visit: its visits, its end and the last message sent
  pub data Run : Visit → List Visit → ℕ → List ℕ → Type 0 where
    -- a Reply, or a drop
    stays : {v : Visit} → ((did v).answer ≡ sent_on → ⊥) → Run v (v ∷ []) (did v).answer (sent (did v))
    -- 102, a Request sent to a group; 103, to an address that nobody holds
    group : {v : Visit} → (did v).answer ≡ sent_on → multicast (to (did v)) ≡ true → Run v (v ∷ []) to_group (sent (did v))
    nobody : {v : Visit} → (did v).answer ≡ sent_on → multicast (to (did v)) ≡ false → NobodyHolds ipv4 yard (to (did v))
        → Run v (v ∷ []) nobody_there (sent (did v))
    -- else it goes, TTL 255, to the lowest router and interface holding its destination
    goes : {v : Visit} {later : List Visit} {end : ℕ} {last : List ℕ} (router interface : ℕ) → (did v).answer ≡ sent_on
        → multicast (to (did v)) ≡ false → LowestHolder ipv4 yard (to (did v)) router interface
        → Run (visit router (arrival (sent (did v)) (to (did v)) interface near_ttl)) later end last → Run v (v ∷ later) end last

-- what is true of a run from a Query that its first router accepts
module _ (yard times : List ℕ) (v : Visit) (visits : List Visit) (end : ℕ) (last : List ℕ) where
  -- the k-th visit, and what the last router received
  abbrev pub nth : ℕ → Visit
  nth k = get_or visits k v

  abbrev pub last_received : List ℕ
  last_received = (nth (length visits - 1)).arrival.message

  -- the room on its link
  abbrev pub last_room : ℕ
  last_room = room (call_at yard times (nth (length visits - 1)))

  pub record Truth : Type 0 where
    -- it ends within the hop number of steps, and within 28, with 101, 102 or 103
    pub by_hops : length visits ≤ (header_of v.arrival.message).hops
    pub by_room : length visits ≤ 28
    pub ends : (end ≡ sent_home) ⊎ ((end ≡ to_group) ⊎ (end ≡ nobody_there))
    -- the last message sent has at most 1472 bytes
    pub by_size : length last ≤ most
    -- no router drops what it receives
    pub none_drops : (k : ℕ) → k < length visits → NoneApplies (rows (call_at yard times (nth k)))
    -- a block for each router, where the last had room; else for each but the last
    pub count : HasRoom ipv4 last_room last_received → length (standard_blocks ipv4 last) ≡ length visits
    pub count_full : Full ipv4 last_room last_received → suc (length (standard_blocks ipv4 last)) ≡ length visits
    -- block k is what demand 2 gives for the k-th router and the message that it received
    pub block : (k : ℕ) (b : Block) → BlockOf (call_at yard times (nth k)) b → HasRoom ipv4 last_room last_received → k < length (standard_blocks ipv4 last)
        → get_or (standard_blocks ipv4 last) k [] ≡ block_bytes b
    -- and nobody alters it later, but for 0x81 in the last block by a router without room
    pub block_kept : (k : ℕ) (b : Block) → BlockOf (call_at yard times (nth k)) b → Full ipv4 last_room last_received → suc k < length (standard_blocks ipv4 last)
        → get_or (standard_blocks ipv4 last) k [] ≡ block_bytes b
    pub block_marked : (k : ℕ) (b : Block) → BlockOf (call_at yard times (nth k)) b → Full ipv4 last_room last_received → suc k ≡ length (standard_blocks ipv4 last)
        → get_or (standard_blocks ipv4 last) k [] ≡ set (block_bytes b) code_offset code_no_space

-- 3. What is demanded of what a walk tells
pub record Demand3 (engine : Engine) (yard times : List ℕ) (v : Visit) (output : List ℕ) (t : Told) : Type 0 where
  -- a refused walk has 0 steps, one dropped by its first router 1; both have 0 blocks, length 0 and untouched output
  pub refuses : (n : ℕ) → IsFirst (walk_rows ipv4 yard times v (length output)) n → t ≡ told n 0 [] output
  pub drops : (n : ℕ) → NoneApplies (walk_rows ipv4 yard times v (length output)) → IsFirst (rows (call_at yard times v)) n → t ≡ told n 1 [] output
  -- any other tells of its run
  pub walks : (visits : List Visit) (end : ℕ) (last : List ℕ) → NoneApplies (walk_rows ipv4 yard times v (length output))
      → Run engine yard times v visits end last → t ≡ told end (length visits) last output
  -- and where the first router accepts, of the truth
  pub tells_truth : (visits : List Visit) (end : ℕ) (last : List ℕ) → NoneApplies (walk_rows ipv4 yard times v (length output))
      → NoneApplies (rows (call_at yard times v)) → Run engine yard times v visits end last → Truth yard times v visits end last

-- a walk meets it for every yard, times, start and output
abbrev pub WalkMeets : Engine → Walker → Type 0
WalkMeets engine walk = (yard times : List ℕ) (v : Visit) (output : List ℕ) → Demand3 engine yard times v output (walk yard times v output)
