-- A law for each way out of a function: what its tests showed and what its callees answered, and the definition's answer.
use Prim.Native.Nat.{ℕ, ◌+◌, ◌≤◌, ◌<◌}
use mathlib.Core.Bool.{Bool, true, false}
use mathlib.Core.List.{List}
use mathlib.Core.Path.{◌≡◌, refl}
use native.Mathlib.Omega.{arith}
use lib.ListN.{length, length-set, set}
use Rattle.wire.specs.Parts.{splice}
use Rattle.interface.specs.declared.Interface.{Interface}
use Rattle.route_entry.specs.declared.Route.{Route}
use Rattle.forwarding.specs.declared.View.{View}
use Rattle.written.specs.declared.Note.{Note}
use Rattle.written.specs.declared.Block.{Block}
use Rattle.forwarding.specs.View.{address_of}
use Rattle.response.specs.Fill.{upstream_of, block_of, ends_trace}
use Rattle.written.specs.Bytes.{block_bytes, note_bytes}
use Rattle.header.specs.declared.Header.{Header}
use Rattle.header.specs.Header.{header_of}
use Rattle.message.specs.Blocks.{last_standard}
use Rattle.sending.specs.Answer.{sent_on, sent_home, mtrace_port, note_home, note_on, goes_home, goes_on, full_message, longer_message, longer_answer}
use Rattle.sending.specs.Inside.{kind_sent, Written, WithRoom}
use Rattle.header.specs.Format.{request, reply}
use Rattle.forwarding.specs.Code.{code_no_space}
use Rattle.message.specs.Room.{hops_used}
use Rattle.sending.proofs.Sent.{longer-length}
use Rattle.format.specs.declared.Format.{Format}
use Rattle.written.specs.Inside.{Writes}
use Rattle.std.specs.Prelude.{Option, Some, None}

-- the record of a Request sent on, by the route chosen
pub note_found : (chosen : Option Route) (r : Route) (i : Option Interface) (n u a : ℕ) → chosen ≡ Some r → u ≡ upstream_of r → a ≡ address_of i
    → record { length = n; destination = u; port = mtrace_port; interface = r.incoming; source = a } ≡ note_on chosen i n
note_found chosen r i n u a found e f = rw (found, e, f)

pub note_none : (chosen : Option Route) (i : Option Interface) (n : ℕ) → chosen ≡ None
    → record { length = n; destination = 0; port = 0; interface = 0; source = 0 } ≡ note_on chosen i n
note_none chosen i n none = rw none

module _ (F : Format) where
  -- a message without room
  pub full_sent : (m : List ℕ) (h : Header) (last : ℕ) (here : Interface) (o n o1 n1 : List ℕ) (k : Note) → h ≡ header_of m → last ≡ last_standard F m
      → o1 ≡ splice o 0 (set (set m 0 reply) (last + F.code) code_no_space) → k ≡ note_home h (length m) here.address → n1 ≡ splice n 0 (note_bytes k)
      → Written (goes_home h here.address (full_message F m)) o n sent_home o1 n1
  full_sent m h last here o n o1 n1 k e f g p q =
      record { says = refl; sends = rw (g, f); notes = rw (q, p) (simp (length-set, length-set)) }

  -- with room there is place for a block behind a message
  pub longer_fits : (m : List ℕ) (h : Header) (used : ℕ) (v : View) (b : Block) (output note : ℕ) → Writes F → WithRoom F m h used v output note
      → (0 < length m) × (length m + length (block_bytes b) ≤ output)
  longer_fits m h used v b output note writes ready = (ready.some, rw (writes.standard b).long (omega (arith, ready.room, ready.output_room)))

  -- a message with room: home, or on
  module _ (m : List ℕ) (v : View) (h : Header) (used : ℕ) (header : h ≡ header_of m) (count : used ≡ hops_used F m) (b : Block) (block : b ≡ block_of v) (x : Bool)
      (told : x ≡ ends_trace v (used + 1) h.hops) (o n o1 n1 : List ℕ) (k : Note) (noted : n1 ≡ splice n 0 (note_bytes k)) where
    answer_home : x ≡ true → longer_answer F m v ≡ goes_home (header_of m) v.here.address (longer_message reply m (block_of v))
    unfolding longer_answer
    answer_home e = rw (← count, ← header, ← told, e)

    pub home_sent : Writes F → (kind : ℕ) → x ≡ true → kind ≡ kind_sent x → o1 ≡ splice o 0 (longer_message kind m b)
        → k ≡ note_home h (length m + F.block) v.here.address
        → Written (longer_answer F m v) o n sent_home o1 n1
    home_sent writes kind e d f g =
        rw (answer_home e)
        (record { says = refl; sends = rw (f, d, e, block); notes = rw (noted, g, header, longer-length writes reply m (block_of v)) })

    answer_on : x ≡ false → longer_answer F m v ≡ goes_on v (longer_message request m (block_of v))
    unfolding longer_answer
    answer_on e = rw (← count, ← header, ← told, e)

    pub on_sent : Writes F → (kind : ℕ) → x ≡ false → kind ≡ kind_sent x → o1 ≡ splice o 0 (longer_message kind m b)
        → k ≡ note_on v.chosen v.incoming (length m + F.block)
        → Written (longer_answer F m v) o n sent_on o1 n1
    on_sent writes kind e d f g =
        rw (answer_on e)
        (record { says = refl; sends = rw (f, d, e, block); notes = rw (noted, g, longer-length writes request m (block_of v)) })
