-- Demands 1 and 2 of document 01, with the room of document 02 (M-102), of ANY engine: which calls it drops and by which number,
-- and what it answers to all others, byte for byte.
use Rattle.std.specs.Prelude.{ℕ, ◌+◌, Bool, true, false, cond, List, ◌++◌, ◌⊎◌, ◌≡◌, eqb, length, set, Option, Some, None}
use Rattle.rows.specs.Rows.{Row, NoneApplies, IsFirst, Noted}
use Rattle.wire.specs.Parts.{splice}
use Rattle.recent.specs.Entries.{entered_in}
use Rattle.interface.specs.declared.Interface.{Interface}
use Rattle.route_entry.specs.Route.{unknown}
use Rattle.route_entry.specs.declared.Route.{Route}
use Rattle.tables.specs.Tables.{interface_of, prohibited_of}
use Rattle.written.specs.declared.Block.{Block}
use Rattle.written.specs.declared.Note.{Note}
use Rattle.forwarding.specs.declared.View.{View}
use Rattle.forwarding.specs.View.{address_of}
use Rattle.forwarding.specs.Code.{code_no_space, codes}
use Rattle.response.specs.Fill.{upstream_of, fill_for, ends_for}
use Rattle.written.specs.Bytes.{block_bytes, note_bytes}
use Rattle.header.specs.declared.Header.{Header}
use Rattle.header.specs.Format.{request, reply, code_offset}
use Rattle.header.specs.Header.{header_of}
use Rattle.message.specs.Blocks.{last_standard}
use Rattle.message.specs.Room.{Full, HasRoom, hops_used}
use Rattle.drops.specs.Arrival.{Arrival, is_query, route_for}
use Rattle.drops.specs.Drop.{table}
use Rattle.view.specs.View.{incoming_for, view_of}
use Rattle.sending.specs.Answer.{sent_on, sent_home, mtrace_port, any_interface}
use Rattle.engine.specs.Step.{Outcome, outcome}
use Rattle.format.specs.Sizes.{ipv4, room_of}

-- an engine: from what arrives, the time, the sheet, and the recent list, output and record lent to it, to its answer and
-- these three as they are left
abbrev pub Engine : Type 0
Engine = Arrival → ℕ → List ℕ → List ℕ → List ℕ → List ℕ → Outcome

-- one call of it
pub record Call : Type 0 where
  pub arrival : Arrival
  pub time : ℕ
  pub sheet : List ℕ
  pub recent : List ℕ
  pub output : List ℕ
  pub note : List ℕ

abbrev pub run : Engine → Call → Outcome
run engine c = engine c.arrival c.time c.sheet c.recent c.output c.note

-- what a call brings: its message and header, the route for it, the receiving interface, what the router looks at, the room on the link,
-- and the rows of the drop table
module _ (c : Call) where
  abbrev pub message : List ℕ
  message = c.arrival.message

  abbrev pub header : Header
  header = header_of message

  abbrev pub chosen : Option Route
  chosen = route_for ipv4 c.sheet header

  abbrev pub here : Interface
  here = interface_of ipv4 c.sheet c.arrival.receiving

  abbrev pub view : View
  view = view_of ipv4 c.arrival c.time c.sheet

  -- the MTU that counts with a route: that of its incoming interface, or of the receiving one where there is no route or that is unknown
  abbrev pub mtu_by : Option Route → ℕ
  mtu_by None = here.mtu
  mtu_by (Some r) = cond (eqb r.incoming unknown) here.mtu (interface_of ipv4 c.sheet r.incoming).mtu

  -- the room on the link: the smaller of 1472 and that MTU less 28
  abbrev pub room : ℕ
  room = room_of ipv4 (mtu_by chosen)

  abbrev pub rows : List Row
  rows = table ipv4 c.arrival c.sheet c.recent (length c.output) (length c.note)

-- 1. Where a row of the table applies, the answer is the number of the first such row, and nothing lent changes; where none
-- applies it is answered
pub record Demand1 (c : Call) (o : Outcome) : Type 0 where
  pub drops : (n : ℕ) → IsFirst (rows c) n → o ≡ outcome n c.recent c.output c.note
  pub answers : NoneApplies (rows c) → (o.answer ≡ sent_on) ⊎ (o.answer ≡ sent_home)

module _ (c : Call) where
  -- this router's block: time, outgoing address, output count and TTL of the receiving interface; the first code that applies;
  -- the rest from the route
  pub record BlockOf (b : Block) : Type 0 where
    pub time : b.time ≡ c.time
    pub outgoing : b.outgoing ≡ (here c).address
    pub output : b.output ≡ (here c).output
    pub threshold : b.threshold ≡ (here c).threshold
    pub code : Noted (codes (view c)) b.code
    pub filled : b.filled ≡ fill_for (view c) (chosen c)

  -- what ends a trace: no route, tracing prohibited, the route is RP, upstream is 0, or the hops used now equal the hops
  abbrev pub ends : Bool
  ends = ends_for (prohibited_of c.sheet) (hops_used ipv4 (message c) + 1) (header c).hops (chosen c)

  -- an accepted Query is written into the recent list; nothing else changes it
  abbrev pub entered : List ℕ
  entered = let listed = entered_in c.recent (header c).client (header c).id in cond (is_query (header c)) listed c.recent

  -- an answer: the message over the first bytes of the output, and its record over those lent for it; the bytes past them stay
  abbrev pub sending : ℕ → List ℕ → Note → Outcome
  sending answer m note = outcome answer entered (splice c.output 0 m) (splice c.note 0 (note_bytes note))

  -- 101, a Reply: to the client and its port, by whichever interface, from the receiving interface's address
  abbrev pub replied : List ℕ → Outcome
  replied m =
      sending sent_home m
      (record { length = length m; destination = (header c).client; port = (header c).port; interface = any_interface; source = (here c).address })

  -- 100, a Request sent on: to upstream or 224.0.0.2, port 33435, by the incoming interface, from its address
  abbrev pub passed_on : Route → List ℕ → Outcome
  passed_on r m =
      sending sent_on m
      (record { length = length m; destination = upstream_of r; port = mtrace_port; interface = r.incoming; source = address_of (incoming_for ipv4 c.sheet (Some r)) })

-- 2. What no row applies to is answered so
pub record Demand2 (c : Call) (o : Outcome) : Type 0 where
  -- no room for a block on the link: a Reply, the message with type 3, and 0x81 as the code of its last type 4 block
  pub full : NoneApplies (rows c) → Full ipv4 (room c) (message c)
      → o ≡ replied c (set (set (message c) 0 reply) (last_standard ipv4 (message c) + code_offset) code_no_space)
  -- room, and the trace ends: a Reply, the message with type 3 and this router's block behind it
  pub home : (b : Block) → NoneApplies (rows c) → HasRoom ipv4 (room c) (message c) → BlockOf c b → ends c ≡ true
      → o ≡ replied c (set (message c) 0 reply ++ block_bytes b)
  -- room, and it goes on: a Request, the message with type 2 and this router's block behind it
  pub on : (b : Block) (r : Route) → NoneApplies (rows c) → HasRoom ipv4 (room c) (message c) → BlockOf c b → ends c ≡ false → chosen c ≡ Some r
      → o ≡ passed_on c r (set (message c) 0 request ++ block_bytes b)

-- an engine meets both in every call
abbrev pub EngineMeets : Engine → Type 0
EngineMeets engine = (c : Call) → Demand1 c (run engine c) × Demand2 c (run engine c)
