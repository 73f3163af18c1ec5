-- Laws of what is sent: there are three ways to answer, by 100 or 101; what is sent fits; and what ends a trace does not look at
-- the code.
use Prim.Native.Nat.{ℕ, ◌+◌, ◌≤◌, ◌<◌}
use mathlib.Core.Bool.{Bool, true, false}
use mathlib.Core.List.{List, ◌++◌}
use mathlib.Core.Logic.{◌⊎◌, inl, inr}
use mathlib.Core.Path.{◌≡◌, refl, sym, ◌∙◌}
use native.Mathlib.Omega.{arith}
use borrow.Author.Tests.{ltb-true, ltb-false}
use lib.ListN.{length, set, length-set, length-append}
use lib.Seq.{get_or-append-add, set-append_left}
use Rattle.wire.specs.Numbers.{byte_at}
use Rattle.rows.proofs.Laws.{cond_cases}
use Rattle.tables.specs.Tables.{interface_of}
use Rattle.forwarding.specs.declared.View.{View}
use Rattle.written.specs.declared.Block.{Block}
use Rattle.forwarding.specs.Code.{wrong_last_hop, code_of, code_no_space, code_wrong_last_hop}
use Rattle.response.specs.Fill.{block_of, ends_trace}
use Rattle.written.specs.Bytes.{block_bytes}
use Rattle.response.proofs.Laws.{no_route_ends}
use Rattle.forwarding.proofs.Laws.{hidden_no_route}
use Rattle.header.specs.Format.{request, reply}
use Rattle.header.specs.Header.{header_of}
use Rattle.message.specs.Blocks.{last_standard}
use Rattle.message.proofs.Laws.{Accepted}
use Rattle.drops.specs.Arrival.{Arrival, route_for}
use Rattle.message.specs.Room.{is_full, Full, HasRoom, hops_used}
use Rattle.view.specs.View.{view_with, view_of}
use Rattle.sending.specs.Answer.{Sent, sent_on, sent_home, goes_home, goes_on, full_message, longer_message, longer_answer, sent_by}
use Rattle.format.specs.declared.Format.{Format}
use Rattle.written.specs.Inside.{Writes}
use Rattle.view.specs.Room.{room_with, room_for}
use Rattle.std.specs.Prelude.{None}

-- a message with a type written and a block behind it, as the laws of messages have it: the block is appended, then the type written
pub longer_as : (kind : ℕ) (m : List ℕ) (b : Block) → 0 < length m → longer_message kind m b ≡ set (m ++ block_bytes b) 0 kind
unfolding longer_message
longer_as kind m b some = sym (set-append_left m (block_bytes b) 0 kind some)

module _ (F : Format) where
  -- no link has room for more than the longest message
  pub room_most : (a : Arrival) (sheet : List ℕ) → room_for F a sheet ≤ F.most
  unfolding room_with
  room_most a sheet = omega arith

  -- the three ways to answer: without room, with the block home, with the block on. What holds of each holds of what is sent
  module _ (a : Arrival) (time : ℕ) (sheet : List ℕ) where
    abbrev m : List ℕ
    m = a.message

    abbrev view : View
    view = view_of F a time sheet

    abbrev block : Block
    block = block_of view

    abbrev room : ℕ
    room = room_for F a sheet

    pub sent_cases : (P : Sent → Type 0)
        → (Full F room m → P (goes_home (header_of m) (interface_of F sheet a.receiving).address (full_message F m)))
        → (HasRoom F room m → ends_trace view (hops_used F m + 1) (header_of m).hops ≡ true
        → P (goes_home (header_of m) view.here.address (longer_message reply m block)))
        → (HasRoom F room m → ends_trace view (hops_used F m + 1) (header_of m).hops ≡ false → P (goes_on view (longer_message request m block)))
        → P (sent_by F a time sheet)
    unfolding sent_by longer_answer
    sent_cases P full last next =
        cond_cases P (is_full F room m) _ _ (λ e. full (ltb-true room (length m + F.block) e))
        (λ e.
        let fits = ltb-false room (length m + F.block) e in
        cond_cases P (ends_trace view (hops_used F m + 1) (header_of m).hops) _ _ (last fits) (next fits))

    -- 100 or 101
    pub sent-answer : ((sent_by F a time sheet).answer ≡ sent_on) ⊎ ((sent_by F a time sheet).answer ≡ sent_home)
    sent-answer =
        sent_cases (λ (s : Sent). (s.answer ≡ sent_on) ⊎ (s.answer ≡ sent_home)) (λ h. inr refl) (λ h e. inr refl) (λ h e. inl refl)

    -- without a route the trace ends
    module _ (none : route_for F sheet (header_of m) ≡ None) where
      pub no_route_home : (sent_by F a time sheet).answer ≡ sent_home
      unfolding view_with
      no_route_home =
          sent_cases (λ (s : Sent). s.answer ≡ sent_home) (λ h. refl) (λ h e. refl)
          (λ h e. let z : ◌≡◌ {A = Bool} true false = sym (no_route_ends view (hops_used F m + 1) (header_of m).hops none) ∙ e in
          let w : ◌≡◌ {A = ℕ} 0 1 = cc in absurd (omega arith))

-- what is written is a block of the format
module _ {F : Format} (writes : Writes F) where
  -- the length of a message with a block behind it, and its code
  module _ (kind : ℕ) (m : List ℕ) (b : Block) where
    pub longer-length : length (longer_message kind m b) ≡ length m + F.block
    unfolding longer_message
    longer-length = rw (length-append (set m 0 kind) (block_bytes b), length-set m 0 kind, (writes.standard b).long)

    longer-code : byte_at (longer_message kind m b) (length m + F.code) ≡ b.code
    unfolding longer_message
    longer-code =
        rw (← length-set m 0 kind, get_or-append-add (set m 0 kind) (block_bytes b) F.code 0) (writes.code b)

  module _ (a : Arrival) (time : ℕ) (sheet : List ℕ) where
    -- with room, the code behind the message is this router's
    sent-code : HasRoom F (room_for F a sheet) a.message → byte_at (sent_by F a time sheet).message (length a.message + F.code) ≡ code_of (view_of F a time sheet)
    unfolding block_of
    sent-code fits =
        let b = block_of (view_of F a time sheet) in
        sent_cases F a time sheet (λ (s : Sent). byte_at s.message (length a.message + F.code) ≡ code_of (view_of F a time sheet))
        (λ h. absurd (omega arith)) (λ h e. longer-code reply a.message b) (λ h e. longer-code request a.message b)

    -- WRONG_LAST_HOP hides NO_ROUTE, and the trace ends
    pub hidden_no_route_home : route_for F sheet (header_of a.message) ≡ None → HasRoom F (room_for F a sheet) a.message → wrong_last_hop (view_of F a time sheet) ≡ true
        → (byte_at (sent_by F a time sheet).message (length a.message + F.code) ≡ code_wrong_last_hop) × ((sent_by F a time sheet).answer ≡ sent_home)
    unfolding view_with
    hidden_no_route_home none fits wrong = (sent-code fits ∙ hidden_no_route (view_of F a time sheet) none wrong, no_route_home F a time sheet none)

    -- what is sent for an accepted message fits
    pub sent_fits : Accepted F a.message → length (sent_by F a time sheet).message ≤ F.most
    sent_fits accepts =
        let m = a.message in
        let b = block_of (view_of F a time sheet) in
        sent_cases F a time sheet (λ (s : Sent). length s.message ≤ F.most)
        (λ h. rw (length-set (set m 0 reply) (last_standard F m + F.code) code_no_space, length-set m 0 reply) accepts.high)
        (λ h e. rw (longer-length reply m b) (omega (arith, room_most F a sheet)))
        (λ h e. rw (longer-length request m b) (omega (arith, room_most F a sheet)))
