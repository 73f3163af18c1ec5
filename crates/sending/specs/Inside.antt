-- Inside: what only the contracts of inner functions cite, here and in the crates above. No entry's promise rests on it, and a reader of the definitions may pass it over.
use Rattle.std.specs.Prelude.{ℕ, ◌+◌, ◌≤◌, ◌<◌, Bool, cond, List, ◌≡◌, length}
use Rattle.interface.specs.Interface.{most_interfaces}
use Rattle.forwarding.specs.declared.View.{View}
use Rattle.response.specs.Inside.{RouteFits}
use Rattle.header.specs.declared.Header.{Header}
use Rattle.header.specs.Format.{request, reply, note_size}
use Rattle.header.specs.Header.{header_of}
use Rattle.message.specs.Blocks.{last_standard}
use Rattle.message.specs.Room.{HasRoom, hops_used}
use Rattle.wire.specs.Parts.{splice}
use Rattle.written.specs.Bytes.{note_bytes}
use Rattle.sending.specs.Answer.{Sent}
use Rattle.format.specs.declared.Format.{Format}
use Rattle.format.specs.Sizes.{output_size}

-- what is sent and its record are written over the first bytes; those past them stay
pub record Written (sent : Sent) (output note : List ℕ) (answer : ℕ) (output' note' : List ℕ) : Type 0 where
  pub says : answer ≡ sent.answer
  pub sends : output' ≡ splice output 0 sent.message
  pub notes : note' ≡ splice note 0 (note_bytes sent.note)

-- a message with room for a block, its header and the hops that it has used, seen from an interface of the sheet
pub record WithRoom (F : Format) (m : List ℕ) (h : Header) (used : ℕ) (v : View) (output note : ℕ) : Type 0 where
  pub header : h ≡ header_of m
  pub count : used ≡ hops_used F m
  pub some : 0 < length m
  pub room : HasRoom F output_size m
  pub few : used ≤ output_size
  pub number : v.number < most_interfaces
  pub fits : RouteFits v.chosen
  pub output_room : output_size ≤ output
  pub note_room : note_size ≤ note

-- a message without room, its header and the place of its last type 4 block
pub record WithoutRoom (F : Format) (m : List ℕ) (h : Header) (last : ℕ) (output note : ℕ) : Type 0 where
  pub header : h ≡ header_of m
  pub last_is : last ≡ last_standard F m
  pub block : last + F.block ≤ length m
  pub most_long : length m ≤ output_size
  pub output_room : output_size ≤ output
  pub note_room : note_size ≤ note

-- the type of what is sent, where the trace ends or not
abbrev pub kind_sent : Bool → ℕ
kind_sent ends = cond ends reply request
