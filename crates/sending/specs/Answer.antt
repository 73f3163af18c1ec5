-- What a router sends when it has accepted a message (document 01, "One router's step"): the Request on, or the Reply home.
use Rattle.std.specs.Prelude.{ℕ, ◌+◌, cond, List, ◌++◌, length, set, Option, Some, None}
use Rattle.tables.specs.Tables.{interface_of}
use Rattle.forwarding.specs.declared.View.{View}
use Rattle.written.specs.declared.Block.{Block}
use Rattle.written.specs.declared.Note.{Note}
use Rattle.forwarding.specs.View.{address_of}
use Rattle.forwarding.specs.Code.{code_no_space}
use Rattle.response.specs.Fill.{upstream_of, block_of, ends_trace}
use Rattle.written.specs.Bytes.{block_bytes}
use Rattle.header.specs.declared.Header.{Header}
use Rattle.header.specs.Format.{request, reply}
use Rattle.header.specs.Header.{header_of}
use Rattle.message.specs.Blocks.{last_standard}
use Rattle.message.specs.Room.{is_full, hops_used}
use Rattle.drops.specs.Arrival.{Arrival}
use Rattle.view.specs.View.{view_of}
use Rattle.view.specs.Room.{room_for}
use Rattle.sending.specs.declared.Answer.{Answer}
use Rattle.sending.specs.declared.Answer.TheVariants.{SentOn, SentHome}
use Rattle.format.specs.declared.Format.{Format}
use Rattle.route_entry.specs.declared.Route.{Route}
use Rattle.interface.specs.declared.Interface.{Interface}

-- the answers: 100 is a Request sent on, 101 a Reply
abbrev pub sent_on : ℕ
sent_on = 100

abbrev pub sent_home : ℕ
sent_home = 101

-- as code has them
abbrev pub number_of : Answer → ℕ
number_of SentOn = sent_on
number_of SentHome = sent_home

-- the UDP port that routers listen on
abbrev pub mtrace_port : ℕ
mtrace_port = 33435

-- the interface of a Reply: whichever leads there
abbrev pub any_interface : ℕ
any_interface = 65535

-- the answer, the message sent, and the answer record's fields
pub record Sent : Type 0 where
  pub answer : ℕ
  pub message : List ℕ
  pub note : Note

-- the record of a Reply: client, client port, 65535, the receiving interface's address
abbrev pub note_home : Header → ℕ → ℕ → Note
note_home h size source =
    record { length = size; destination = h.client; port = h.port; interface = any_interface; source = source }

-- the record of a Request sent on: upstream or 224.0.0.2, 33435, the incoming interface and its address. Without a route nothing is
-- sent on, so that the first line is met by no input
abbrev pub note_on : Option Route → Option Interface → ℕ → Note
note_on None incoming size = record { length = size; destination = 0; port = 0; interface = 0; source = 0 }
note_on (Some r) incoming size =
    record { length = size; destination = upstream_of r; port = mtrace_port; interface = r.incoming; source = address_of incoming }

-- a message sent home, and one sent on, with its record
abbrev pub goes_home : Header → ℕ → List ℕ → Sent
goes_home h source message = record { answer = sent_home; message = message; note = note_home h (length message) source }

abbrev pub goes_on : View → List ℕ → Sent
goes_on v message = record { answer = sent_on; message = message; note = note_on v.chosen v.incoming (length message) }

-- 1. there is no room on the link: copy, type 3, code 0x81 in the last type 4 block. It goes home as long as it came
abbrev pub full_message : Format → List ℕ → List ℕ
full_message F m = set (set m 0 reply) (last_standard F m + F.code) code_no_space

-- 2. to 4. the message with its type and this router's block appended
unfoldable pub longer_message : ℕ → List ℕ → Block → List ℕ
longer_message kind m b = set m 0 kind ++ block_bytes b

-- 5. with one hop more used: a Reply home, or the Request on
unfoldable pub longer_answer : Format → List ℕ → View → Sent
longer_answer F m v =
    let h = header_of m in
    let last = goes_home h v.here.address (longer_message reply m (block_of v)) in
    let next = goes_on v (longer_message request m (block_of v)) in
    cond (ends_trace v (hops_used F m + 1) h.hops) last next

-- what is sent: step 1 where there is no room, else steps 2 to 5
unfoldable pub sent_by : Format → Arrival → ℕ → List ℕ → Sent
sent_by F a time sheet =
    let m = a.message in
    let full = goes_home (header_of m) (interface_of F sheet a.receiving).address (full_message F m) in
    let longer = longer_answer F m (view_of F a time sheet) in
    cond (is_full F (room_for F a sheet) m) full longer
