-- Every run whose first router accepts is a trace: visit after visit, each of which accepts, up to an end. What is said of all
-- such walks is said of traces, by a line for each of the two ways to go on from a visit.
use Prim.Native.Nat.{ℕ, zero, suc, ◌+◌, ◌*◌, ◌-◌, ◌≤◌, ◌<◌}
use mathlib.Core.List.{List, [], ◌∷◌}
use mathlib.Core.Logic.{inl}
use mathlib.Core.Path.{◌≡◌, refl}
use native.Mathlib.Omega.{arith}
use native.Mathlib.Nat.{le-div_iff_mul-le}
use lib.ListN.{length, get_or}
use Rattle.recent.specs.Entries.{empty}
use Rattle.written.specs.declared.Block.{Block}
use Rattle.header.specs.Format.{note_size}
use Rattle.message.specs.Room.{hops_left}
use Rattle.message.proofs.Laws.{Accepted}
use Rattle.drops.proofs.Laws.{Taken, taken}
use Rattle.sending.proofs.Laws.{blocks_below_hops}
use Rattle.yard.specs.Yard.{sheet_at}
use Rattle.yard.specs.Walk.{Visit, sent_at, next_of, Walk, walk_from}
use Rattle.yard.specs.Faithful.{Walks, run_over, run_on, Accepts, block_for, room_at, EndsWell, most_steps}
use Rattle.yard.proofs.Turns.{Onward, Ending, full, longer, goes_on_lem, stops, next_is, next_accepts, falls}
use Rattle.yard.proofs.Runs.{walk_runs}
use Rattle.format.specs.declared.Format.{Format}
use Rattle.format.specs.Sizes.{Sound, output_size}
use Rattle.written.specs.Inside.{Writes}

pub data Trace (F : Format) (yard times : List ℕ) : Visit → List Visit → ℕ → List ℕ → Type 0 where
  ends : {v : Visit} {end : ℕ} {last : List ℕ} → Accepts F yard v → Ending F (room_at F yard v) v.arrival.message (block_for F yard times v) end last
      → Trace F yard times v (v ∷ []) end last
  goes : {v : Visit} {later : List Visit} {end : ℕ} {last : List ℕ} → Onward F yard times v → Trace F yard times (next_of F yard (sent_at F yard times v)) later end last
      → Trace F yard times v (v ∷ later) end last

abbrev pub TraceOf : Format → List ℕ → List ℕ → Visit → Walk → Type 0
TraceOf F yard times v w = Trace F yard times v w.visits w.end w.last

module _ {F : Format} (sound : Sound F) (writes : Writes F) where
  module _ (yard times : List ℕ) where
    pub traced : {v : Visit} {vs : List Visit} {end : ℕ} {last : List ℕ} → Walks F yard times v vs end last → Accepts F yard v → Trace F yard times v vs end last
    traced {v} (run_over off) accepts = ends accepts (stops sound writes yard times v accepts off)
    traced {v} (run_on on r) accepts = let o = goes_on_lem sound writes yard times v on in goes o (traced r (next_accepts sound writes yard times v o))

    pub walk-traced : (v : Visit) → Accepts F yard v → TraceOf F yard times v (walk_from F yard times v)
    walk-traced v = traced (walk_runs sound writes yard times v)

    -- what a visit that accepts has received
    takes : (v : Visit) → Accepts F yard v → Taken F v.arrival (sheet_at yard v.router) empty output_size note_size
    takes v = taken sound v.arrival (sheet_at yard v.router) empty output_size note_size

    pub received_right : (v : Visit) → Accepts F yard v → Accepted F v.arrival.message
    received_right v accepts = (takes v accepts).message

    -- no more steps than hops that are not yet used
    pub steps_by_hops : {v : Visit} {vs : List Visit} {end : ℕ} {last : List ℕ} → Trace F yard times v vs end last → length vs ≤ hops_left F v.arrival.message
    steps_by_hops {v} (ends accepts e) =
        omega (arith, blocks_below_hops sound v.arrival (sheet_at yard v.router) empty output_size note_size (takes v accepts))
    steps_by_hops {v} (goes o t) = omega (arith, falls sound writes yard times v o, steps_by_hops t)

    -- no more steps than there is room for blocks, and one
    steps_by_room : {v : Visit} {vs : List Visit} {end : ℕ} {last : List ℕ} → Trace F yard times v vs end last
        → length v.arrival.message + F.block * length vs ≤ F.most + F.block
    steps_by_room {v} (ends accepts e) = omega (arith, (received_right v accepts).high)
    steps_by_room {v} (goes o t) = omega (arith, o.grown.long, rw (next_is sound writes yard times v o) at (steps_by_room t))

    -- so that no run has more than 28, also one that its first router drops
    steps_by_size : {v : Visit} {vs : List Visit} {end : ℕ} {last : List ℕ} → Walks F yard times v vs end last → length vs ≤ most_steps F
    steps_by_size (run_over off) = let some : 0 < F.block = omega arith in (le-div_iff_mul-le some).1 (omega arith)
    steps_by_size {v} {vs} (run_on on r) =
        let some : 0 < F.block = omega arith in
        let accepts = (goes_on_lem sound writes yard times v on).accepts in
        (le-div_iff_mul-le some).1 (omega (arith, steps_by_room (traced (run_on on r) accepts), (received_right v accepts).low))

    pub walk_within : (v : Visit) → length (walk_from F yard times v).visits ≤ most_steps F
    walk_within v = steps_by_size (walk_runs sound writes yard times v)

    -- no later router drops: the end is 101, 102 or 103
    ending_well : {room : ℕ} {m : List ℕ} {b : Block} {end : ℕ} {last : List ℕ} → Ending F room m b end last → EndsWell end
    ending_well (full h) = inl refl
    ending_well (longer kind h well) = well

    pub ends_well : {v : Visit} {vs : List Visit} {end : ℕ} {last : List ℕ} → Trace F yard times v vs end last → EndsWell end
    ends_well (ends accepts e) = ending_well e
    ends_well (goes o t) = ends_well t

    -- the visits: the first, that each goes where the message before it was sent, and that each router accepts
    pub first_visit : {v : Visit} {vs : List Visit} {end : ℕ} {last : List ℕ} → Trace F yard times v vs end last → (w : Visit) → get_or vs 0 w ≡ v
    first_visit (ends accepts e) w = refl
    first_visit (goes o t) w = refl

    pub visits_follow : {v : Visit} {vs : List Visit} {end : ℕ} {last : List ℕ} → Trace F yard times v vs end last → (w : Visit) (k : ℕ) → suc k < length vs
        → get_or vs (suc k) w ≡ next_of F yard (sent_at F yard times (get_or vs k w))
    visits_follow (ends accepts e) w k h = absurd (omega arith)
    visits_follow (goes o t) w zero h = first_visit t w
    visits_follow (goes o t) w (suc k) h = visits_follow t w k (omega arith)

    pub none_drops : {v : Visit} {vs : List Visit} {end : ℕ} {last : List ℕ} → Trace F yard times v vs end last → (w : Visit) (k : ℕ) → k < length vs
        → Accepts F yard (get_or vs k w)
    none_drops (ends accepts e) w zero h = accepts
    none_drops (ends accepts e) w (suc k) h = absurd (omega arith)
    none_drops (goes o t) w zero h = o.accepts
    none_drops (goes o t) w (suc k) h = none_drops t w k (omega arith)

    -- there is a last visit, and it ends the trace
    pub some_visits : {v : Visit} {vs : List Visit} {end : ℕ} {last : List ℕ} → Trace F yard times v vs end last → 0 < length vs
    some_visits (ends accepts e) = omega arith
    some_visits (goes o t) = omega arith

    pub ended_by : {v : Visit} {vs : List Visit} {end : ℕ} {last : List ℕ} → Trace F yard times v vs end last → (w : Visit)
        → Ending F (room_at F yard (get_or vs (length vs - 1) w)) (get_or vs (length vs - 1) w).arrival.message (block_for F yard times (get_or vs (length vs - 1) w)) end last
    ended_by (ends accepts e) w = e
    ended_by (goes {later = later} o t) w =
        let one : suc (length later) - 1 ≡ suc (length later - 1) = omega (arith, some_visits t) in rw one (ended_by t w)
