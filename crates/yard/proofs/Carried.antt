-- Laws of what a trace carries: each router receives the Query's header, but for the type, and the blocks due from the routers
-- before it; the last message has the blocks due from all, but where the last router had no room its own is missing, and
-- NO_SPACE stands in the block before.
use Prim.Native.Nat.{ℕ, zero, suc, ◌-◌, ◌≤◌, ◌<◌}
use mathlib.Core.List.{List, [], ◌∷◌, ◌++◌, append_assoc, append-nil, map, map-append}
use mathlib.Core.Path.{◌≡◌, refl, sym, ap, ◌∙◌}
use native.Mathlib.Omega.{arith}
use lib.ListN.{length, take, get_or}
use lib.Seq.{take-suc, take-length}
use Rattle.written.specs.declared.Block.{Block}
use Rattle.written.specs.Bytes.{block_bytes}
use Rattle.header.specs.Format.{request, reply, note_size}
use Rattle.header.specs.Header.{header_of, retyped}
use Rattle.message.specs.Blocks.{standard_blocks, last_coded}
use Rattle.message.specs.Room.{Full, HasRoom}
use Rattle.message.proofs.Laws.{Accepted, no_room_has_standard, sent-standard_blocks, coded_standard_blocks}
use Rattle.sending.specs.Answer.{longer_message}
use Rattle.forwarding.specs.Code.{code_no_space}
use Rattle.sending.proofs.Laws.{longer_as}
use Rattle.engine.proofs.Laws.{taken_room}
use Rattle.yard.specs.Walk.{Visit}
use Rattle.yard.specs.Faithful.{Accepts, block_for, block_due, blocks_due, room_at}
use Rattle.yard.proofs.Turns.{Ending, full, longer, next_is}
use Rattle.yard.proofs.Traces.{Trace, ends, goes, received_right, none_drops, some_visits, ended_by}
use Rattle.format.specs.declared.Format.{Format}
use Rattle.format.specs.Sizes.{Sound, least_room, output_size}
use Rattle.recent.specs.Entries.{empty}
use Rattle.drops.proofs.Laws.{taken}
use Rattle.yard.specs.Yard.{sheet_at}
use Rattle.written.specs.Inside.{Writes}

-- all but the last of some visits, and the last
all_due : (f : Visit → List ℕ) (vs : List Visit) (w : Visit) → 0 < length vs → map f (take (length vs - 1) vs) ++ (f (get_or vs (length vs - 1) w) ∷ []) ≡ map f vs
all_due f vs w some =
    let n : ℕ = length vs - 1 in
    let all : length vs ≡ suc n = omega arith in
    let whole : take n vs ++ (get_or vs n w ∷ []) ≡ vs = sym (take-suc vs n w (omega arith)) ∙ rw (← all) (take-length vs) in
    sym (map-append f (take n vs) (get_or vs n w ∷ [])) ∙ ap (map f) whole

module _ {F : Format} (sound : Sound F) (writes : Writes F) where
  -- a message with this router's block behind it
  longer_carries : (kind : ℕ) (m : List ℕ) (b : Block) → Accepted F m → standard_blocks F (longer_message kind m b) ≡ standard_blocks F m ++ (block_bytes b ∷ [])
  longer_carries kind m b a =
      rw (longer_as kind m b (omega (arith, a.low))) (sent-standard_blocks sound m a (block_bytes b) (writes.standard b) kind)

  -- what a message that ends a trace carries
  module _ (room : ℕ) (link : least_room F ≤ room) (m : List ℕ) (b : Block) (a : Accepted F m) where
    ending_with_room : {end : ℕ} {last : List ℕ} → Ending F room m b end last → HasRoom F room m → standard_blocks F last ≡ standard_blocks F m ++ (block_bytes b ∷ [])
    ending_with_room (full h) fits = absurd (omega arith)
    ending_with_room (longer kind h well) fits = longer_carries kind m b a

    ending_without_room : {end : ℕ} {last : List ℕ} → Ending F room m b end last → Full F room m → standard_blocks F last ≡ last_coded F code_no_space (standard_blocks F m)
    ending_without_room (full h) f = coded_standard_blocks sound m (no_room_has_standard sound m a room link h) reply code_no_space
    ending_without_room (longer kind h well) f = absurd (omega arith)

  module _ (yard times : List ℕ) where
    pub received_header : {v : Visit} {vs : List Visit} {end : ℕ} {last : List ℕ} → Trace F yard times v vs end last → (w : Visit) (k : ℕ) → k < length vs
        → header_of (get_or vs k w).arrival.message ≡ retyped (header_of (get_or vs k w).arrival.message).kind (header_of v.arrival.message)
    received_header (ends accepts e) w zero h = refl
    received_header (ends accepts e) w (suc k) h = absurd (omega arith)
    received_header (goes o t) w zero h = refl
    received_header {v} (goes {later = later} o t) w (suc k) h =
        received_header t w k (omega arith)
        ∙ rw (next_is sound writes yard times v o) (ap (retyped (header_of (get_or later k w).arrival.message).kind) o.grown.header)

    pub received_blocks : {v : Visit} {vs : List Visit} {end : ℕ} {last : List ℕ} → Trace F yard times v vs end last → (w : Visit) (k : ℕ) → k < length vs
        → standard_blocks F (get_or vs k w).arrival.message ≡ standard_blocks F v.arrival.message ++ blocks_due F yard times (take k vs)
    received_blocks {v} (ends accepts e) w zero h = sym (append-nil (standard_blocks F v.arrival.message))
    received_blocks (ends accepts e) w (suc k) h = absurd (omega arith)
    received_blocks {v} (goes o t) w zero h = sym (append-nil (standard_blocks F v.arrival.message))
    received_blocks {v} (goes {later = later} o t) w (suc k) h =
        received_blocks t w k (omega arith)
        ∙ rw (
          next_is sound writes yard times v o,
          o.grown.message,
          longer_carries request v.arrival.message (block_for F yard times v) (received_right sound writes yard times v o.accepts),
          append_assoc (standard_blocks F v.arrival.message) (block_due F yard times v ∷ []) (blocks_due F yard times (take k later)),
        )

    -- the last message, by what the last router received
    module _ {v : Visit} {vs : List Visit} {end : ℕ} {last : List ℕ} (t : Trace F yard times v vs end last) (w : Visit) where
      abbrev got : List ℕ
      got = (get_or vs (length vs - 1) w).arrival.message

      abbrev came : List (List ℕ)
      came = standard_blocks F v.arrival.message

      abbrev due : Block
      due = block_for F yard times (get_or vs (length vs - 1) w)

      abbrev at : Visit
      at = get_or vs (length vs - 1) w

      accepts : Accepts F yard at
      accepts = none_drops sound writes yard times t w (length vs - 1) (omega (arith, some_visits sound writes yard times t))

      right : Accepted F got
      right = received_right sound writes yard times at accepts

      link : least_room F ≤ room_at F yard at
      link = taken_room sound at.arrival (sheet_at yard at.router) empty output_size note_size (taken sound at.arrival (sheet_at yard at.router) empty output_size note_size accepts)

      before : standard_blocks F got ≡ came ++ blocks_due F yard times (take (length vs - 1) vs)
      before = received_blocks t w (length vs - 1) (omega (arith, some_visits sound writes yard times t))

      pub last_with_room : HasRoom F (room_at F yard at) got → standard_blocks F last ≡ came ++ blocks_due F yard times vs
      last_with_room room =
          ending_with_room (room_at F yard at) link got due right (ended_by sound writes yard times t w) room
          ∙ rw (before, append_assoc came (blocks_due F yard times (take (length vs - 1) vs)) (block_due F yard times (get_or vs (length vs - 1) w) ∷ []))
          (ap (λ (l : List (List ℕ)). came ++ l) (all_due (block_due F yard times) vs w (some_visits sound writes yard times t)))

      pub last_without_room : Full F (room_at F yard at) got → standard_blocks F last ≡ last_coded F code_no_space (came ++ blocks_due F yard times (take (length vs - 1) vs))
      last_without_room h = ending_without_room (room_at F yard at) link got due right (ended_by sound writes yard times t w) h ∙ ap (last_coded F code_no_space) before
