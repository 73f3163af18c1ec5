-- The product's walk meets demand 3, and with demands 1 and 2 that leaves no choice. A run by the bytes that the engine leaves is a
-- run of the walk's definition, visit by visit, and the other way round.
use Prim.Native.Nat.{ℕ, zero, suc, ◌-◌, ◌≤◌, ◌<◌}
use mathlib.Core.Bool.{true, false}
use mathlib.Core.List.{List, [], ◌∷◌, map}
use mathlib.Core.Logic.{inl, ⊎_elim}
use mathlib.Core.Path.{◌≡◌, refl, sym, ap, subst, ◌∙◌}
use native.Mathlib.Omega.{arith}
use borrow.Author.Tests.{eqb-true, eqb-false}
use lib.Dec.{eqb}
use lib.ListN.{length, take, get_or, set, length-map, length-replicate}
use lib.Seq.{take-append_seam, get_or-take, length-take-le}
use Rattle.rows.specs.Rows.{Row, first_of, NoneApplies, IsFirst}
use Rattle.rows.proofs.Laws.{decided, first_or_none, first_is, noted_is}
use Rattle.wire.specs.Numbers.{be, be16, be32}
use Rattle.address.specs.Addresses.{multicast}
use Rattle.wire.proofs.Laws.{splice_front}
use Rattle.written.specs.declared.Block.{Block}
use Rattle.forwarding.specs.Code.{code_no_space}
use Rattle.written.specs.Bytes.{block_bytes}
use Rattle.header.specs.Format.{most, code_offset, note_size}
use Rattle.message.specs.Blocks.{last_coded}
use Rattle.drops.specs.Arrival.{arrival}
use Rattle.drops.specs.Drop.{near_ttl}
use Rattle.drops.proofs.Laws.{drop_numbers}
use Rattle.sending.specs.Answer.{Sent, sent_on}
use Rattle.engine.specs.Step.{Outcome, outcome, step_of}
use Rattle.yard.specs.Yard.{sheet_at}
use Rattle.yard.specs.Walk.{to_group, nobody_there, Visit, visit, sent_at, end_of, next_of, Walk, refused_walk, walk_from, walk_rows, walk_of}
use Rattle.yard.specs.Holders.{LowestHolder, NobodyHolds}
use Rattle.yard.specs.Faithful.{Walks, run_over, run_on, Starts, block_due, room_at}
use Rattle.yard.proofs.Laws.{called, sent_short, end_not_on, end_group, end_nobody, end_goes, nobody_or_somebody, walk_runs, one_run, not_refused_walks, walk_is_faithful, steps_within}
use Rattle.demands.specs.Engine.{Engine, rows, room, BlockOf, EngineMeets}
use Rattle.demands.specs.Walk.{Told, Walker, told, call_at, sent, to, did, Run, stays, group, nobody, goes, Truth, Demand3, WalkMeets}
use Rattle.wire.specs.Parts.{blank}
use Rattle.demands.proofs.EngineMet.{block_is, room_is, engine_meets, no_other_engine}
use Rattle.format.specs.Sizes.{ipv4, ipv4_sound, output_size}
use Rattle.written.proofs.Laws.{ipv4_writes}

-- the product's walk, by its promise
abbrev pub walk_told : Walker
walk_told yard times v output = let w = walk_of ipv4 yard times v (length output) in told w.end (length w.visits) w.last output

-- what a call leaves tells what the definition of the walk sends
pub record As (o : Outcome) (s : Sent) : Type 0 where
  pub answer : o.answer ≡ s.answer
  pub sends : sent o ≡ s.message
  pub is_to : to o ≡ s.note.destination

module _ (yard times : List ℕ) where
  abbrev out : Visit → Outcome
  out v = did (step_of ipv4) yard times v

  abbrev at : Visit → Sent
  at v = sent_at ipv4 yard times v

  pub as_sent : (v : Visit) → As (out v) (at v)
  unfolding blank
  as_sent v =
      let o = out v in
      let c = called ipv4_sound ipv4_writes (sheet_at yard v.router) (get_or times v.router 0) v.arrival (blank output_size) o.recent o.output o.note o.answer refl refl
      (be16 o.note 0) (be32 o.note 2) refl refl in
      let m = (at v).message in
      let sends : sent o ≡ m = rw (c.long, c.sends, splice_front) (take-append_seam m _) in
      record { answer = c.answer; sends = sends; is_to = c.to }

  walks_as : (v : Visit) (vs : List Visit) (end end' : ℕ) (last last' : List ℕ) → end ≡ end' → last ≡ last' → Walks ipv4 yard times v vs end last
      → Walks ipv4 yard times v vs end' last'
  walks_as v vs end end' last last' e f r = rw (← e, ← f) r

  run_as : (v : Visit) (vs : List Visit) (end end' : ℕ) (last last' : List ℕ) → end ≡ end' → last ≡ last' → Run (step_of ipv4) yard times v vs end last
      → Run (step_of ipv4) yard times v vs end' last'
  run_as v vs end end' last last' e f r = rw (← e, ← f) r

  -- a visit that is the last
  over_at : (v : Visit) (end : ℕ) → end_of ipv4 yard (at v) ≡ end → (end ≡ sent_on → ⊥) → Walks ipv4 yard times v (v ∷ []) end (sent (out v))
  over_at v end is off =
      walks_as v (v ∷ []) (end_of ipv4 yard (at v)) end (at v).message (sent (out v)) is (sym (as_sent v).sends) (run_over (λ e. off (sym is ∙ e)))

  module _ (v : Visit) (on : (out v).answer ≡ sent_on) where
    on_at : (at v).answer ≡ sent_on
    on_at = sym (as_sent v).answer ∙ on

    group_at : multicast (to (out v)) ≡ true → end_of ipv4 yard (at v) ≡ to_group
    group_at g = end_group ipv4_sound ipv4_writes yard (at v) on_at (rw (as_sent v).is_to at g)

    module _ (single : multicast (to (out v)) ≡ false) where
      nobody_at : NobodyHolds ipv4 yard (to (out v)) → end_of ipv4 yard (at v) ≡ nobody_there
      nobody_at h = end_nobody ipv4_sound ipv4_writes yard (at v) on_at (rw (as_sent v).is_to at single) (rw (as_sent v).is_to at h)

      goes_at : (router interface : ℕ) → LowestHolder ipv4 yard (to (out v)) router interface
          → (end_of ipv4 yard (at v) ≡ sent_on) × (next_of ipv4 yard (at v) ≡ visit router (arrival (sent (out v)) (to (out v)) interface near_ttl))
      goes_at router interface h =
          rw ((as_sent v).sends, (as_sent v).is_to)
          (end_goes ipv4_sound ipv4_writes yard (at v) on_at (rw (as_sent v).is_to at single) router interface (rw (as_sent v).is_to at h))

  -- a run is one of the definition
  run_walks : {v : Visit} {vs : List Visit} {end : ℕ} {last : List ℕ} → Run (step_of ipv4) yard times v vs end last → Walks ipv4 yard times v vs end last
  run_walks (stays {v = v} off) =
      over_at v (out v).answer (end_not_on ipv4_sound ipv4_writes yard (at v) (λ e. off ((as_sent v).answer ∙ e)) ∙ sym (as_sent v).answer) off
  run_walks (group {v = v} on g) = over_at v to_group (group_at v on g) (λ e. omega arith)
  run_walks (nobody {v = v} on s h) = over_at v nobody_there (nobody_at v on s h) (λ e. omega arith)
  run_walks (goes {v = v} {later = others} {end = end} {last = last} router interface on s h later) =
      let k = goes_at v on s router interface h in
      run_on {later = others} {end = end} {last = last} k.0 (rw k.1 (run_walks later))

  -- and one of the definition is a run
  walks_run : {v : Visit} {vs : List Visit} {end : ℕ} {last : List ℕ} → Walks ipv4 yard times v vs end last → Run (step_of ipv4) yard times v vs end last
  walks_run (run_over {v = v} off) =
      let m = (as_sent v).sends in
      ⊎_elim
      (λ t.
      let on = eqb-true (out v).answer sent_on t in
      ⊎_elim (λ g. run_as v (v ∷ []) to_group _ _ _ (sym (group_at v on g)) m (group on g))
      (λ s. ⊎_elim (λ h. run_as v (v ∷ []) nobody_there _ _ _ (sym (nobody_at v on s h)) m (nobody on s h))
      (λ h. absurd (off (goes_at v on s h.router h.interface h.holds).0))
      (nobody_or_somebody ipv4 yard (to (out v))))
      (decided (multicast (to (out v)))))
      (λ t.
      let off_at : (out v).answer ≡ sent_on → ⊥ = eqb-false (out v).answer sent_on t in
      let end : (out v).answer ≡ end_of ipv4 yard (at v) = (as_sent v).answer ∙ sym (end_not_on ipv4_sound ipv4_writes yard (at v) (λ e. off_at ((as_sent v).answer ∙ e))) in
      run_as v (v ∷ []) (out v).answer _ _ _ end m (stays off_at))
      (decided (eqb (out v).answer sent_on))
  walks_run (run_on {v = v} {later = later} {end = end} {last = last} on r) =
      let further = walks_run r in
      ⊎_elim
      (λ t.
      let is-on = eqb-true (out v).answer sent_on t in
      ⊎_elim (λ g. absurd (omega (arith, group_at v is-on g)))
      (λ s. ⊎_elim (λ h. absurd (omega (arith, nobody_at v is-on s h)))
      (λ h. goes h.router h.interface is-on s h.holds (rw (goes_at v is-on s h.router h.interface h.holds).1 at further))
      (nobody_or_somebody ipv4 yard (to (out v))))
      (decided (multicast (to (out v)))))
      (λ t.
      let off_at : (out v).answer ≡ sent_on → ⊥ = eqb-false (out v).answer sent_on t in
      absurd (off_at ((as_sent v).answer ∙ sym (end_not_on ipv4_sound ipv4_writes yard (at v) (λ e. off_at ((as_sent v).answer ∙ e))) ∙ on)))
      (decided (eqb (out v).answer sent_on))

-- a block of a list with a code in its last: the last has it, and those before stay
module _ (code : ℕ) where
  coded_length : (bs : List (List ℕ)) → length (last_coded ipv4 code bs) ≡ length bs
  unfolding last_coded
  coded_length [] = refl
  coded_length (b ∷ []) = refl
  coded_length (b ∷ c ∷ bs) = ap suc (coded_length (c ∷ bs))

  coded_before : (bs : List (List ℕ)) (k : ℕ) → suc k < length bs → get_or (last_coded ipv4 code bs) k [] ≡ get_or bs k []
  unfolding last_coded
  coded_before [] k h = absurd (omega arith)
  coded_before (b ∷ []) k h = absurd (omega arith)
  coded_before (b ∷ c ∷ bs) zero h = refl
  coded_before (b ∷ c ∷ bs) (suc k) h = coded_before (c ∷ bs) k (omega arith)

  coded_last : (bs : List (List ℕ)) (k : ℕ) → suc k ≡ length bs → get_or (last_coded ipv4 code bs) k [] ≡ set (get_or bs k []) code_offset code
  unfolding last_coded
  coded_last [] k h = absurd (omega arith)
  coded_last (b ∷ []) zero h = refl
  coded_last (b ∷ []) (suc k) h = absurd (omega arith)
  coded_last (b ∷ c ∷ bs) zero h = absurd (omega arith)
  coded_last (b ∷ c ∷ bs) (suc k) h = coded_last (c ∷ bs) k (omega arith)

-- element k of a list that a function was applied to
pub mapped_at : {A B : Type 0} (f : A → B) (xs : List A) (k : ℕ) (d : A) (e : B) → k < length xs → get_or (map f xs) k e ≡ f (get_or xs k d)
mapped_at f [] k d e h = absurd (omega arith)
mapped_at f (x ∷ xs) zero d e h = refl
mapped_at f (x ∷ xs) (suc k) d e h = mapped_at f xs k d e (omega arith)

-- so many zeros, and some visits
pub blank-length : (n : ℕ) → length (blank n) ≡ n
unfolding blank
blank-length n = length-replicate n 0

runs_some : (yard times : List ℕ) {v : Visit} {vs : List Visit} {end : ℕ} {last : List ℕ} → Walks ipv4 yard times v vs end last → 0 < length vs
runs_some yard times (run_over off) = omega arith
runs_some yard times (run_on on r) = omega arith

runs_short : (yard times : List ℕ) {v : Visit} {vs : List Visit} {end : ℕ} {last : List ℕ} → Walks ipv4 yard times v vs end last → length last ≤ most
runs_short yard times (run_over {v = v} off) = sent_short ipv4_sound ipv4_writes yard times v
runs_short yard times (run_on on r) = runs_short yard times r

-- the truth of the product's walk, where it is not refused and its first router accepts
module _ (yard times : List ℕ) (v : Visit) (output : ℕ) (s : Starts ipv4 yard times v output) where
  abbrev w : Walk
  w = walk_of ipv4 yard times v output

  abbrev visits : List Visit
  visits = w.visits

  abbrev late : ℕ
  late = length visits - 1

  due_at : (k : ℕ) (b : Block) → BlockOf (call_at yard times (get_or visits k v)) b → block_bytes b ≡ block_due ipv4 yard times (get_or visits k v)
  due_at k b is = ap block_bytes (block_is (call_at yard times (get_or visits k v)) b is)

  -- there is a last visit
  last_there : suc late ≡ length visits
  last_there = omega (arith, runs_some yard times (rw (← not_refused_walks ipv4_sound ipv4_writes yard times v output s.not_refused) at (walk_runs ipv4_sound ipv4_writes yard times v)))

  -- the blocks of all visits but the last
  abbrev before : List Visit
  before = take late visits

  before_length : length (map (block_due ipv4 yard times) before) ≡ late
  before_length = length-map before (block_due ipv4 yard times) ∙ length-take-le late visits (omega (arith, last_there))

  before_at : (k : ℕ) (b : Block) → BlockOf (call_at yard times (get_or visits k v)) b → k < late → get_or (map (block_due ipv4 yard times) before) k [] ≡ block_bytes b
  before_at k b is h =
      mapped_at (block_due ipv4 yard times) before k v [] (rw (length-take-le late visits (omega (arith, last_there))) h)
      ∙ ap (block_due ipv4 yard times) (get_or-take late visits k v h)
      ∙ sym (due_at k b is)

  -- the room of the last router, as the demand says it and as the walk does
  left : room_at ipv4 yard (get_or visits late v) ≡ room (call_at yard times (get_or visits late v))
  left = room_is (call_at yard times (get_or visits late v))

  true_walk : Truth yard times v visits w.end w.last
  true_walk =
      let f = walk_is_faithful ipv4_sound ipv4_writes yard times v output s in
      let coded = last_coded ipv4 code_no_space (map (block_due ipv4 yard times) before) in
      let long : length coded ≡ late = coded_length code_no_space (map (block_due ipv4 yard times) before) ∙ before_length in
      record {
        by_hops = f.steps;
        by_room = steps_within ipv4_sound ipv4_writes yard times v output;
        ends = f.end;
        by_size = runs_short yard times (rw (← not_refused_walks ipv4_sound ipv4_writes yard times v output s.not_refused) at (walk_runs ipv4_sound ipv4_writes yard times v));
        none_drops = λ k h. rw (blank-length output_size, blank-length note_size) (f.accepts k h);
        count = λ room. rw (f.with_room (rw left room)) (length-map visits (block_due ipv4 yard times));
        count_full = λ full. rw (f.without_room (rw left full), long) last_there;
        block =
            λ k b is room h.
            let there : k < length visits = rw (f.with_room (rw left room), length-map visits (block_due ipv4 yard times)) at h in
            rw (f.with_room (rw left room)) (mapped_at (block_due ipv4 yard times) visits k v [] there ∙ sym (due_at k b is));
        block_kept =
            λ k b is full h.
            let there : suc k < late = rw (f.without_room (rw left full), long) at h in
            rw (f.without_room (rw left full))
            (coded_before code_no_space (map (block_due ipv4 yard times) before) k (rw before_length there) ∙ before_at k b is (omega arith));
        block_marked =
            λ k b is full h.
            let there : suc k ≡ late = rw (f.without_room (rw left full), long) at h in
            rw (f.without_room (rw left full))
            (coded_last code_no_space (map (block_due ipv4 yard times) before) k (rw before_length there)
            ∙ ap (λ (l : List ℕ). set l code_offset code_no_space) (before_at k b is (omega arith)));
      }

module _ (yard times : List ℕ) (v : Visit) (output : List ℕ) where
  abbrev refusals : List Row
  refusals = walk_rows ipv4 yard times v (length output)

  was_refused : (n : ℕ) → IsFirst refusals n → walk_told yard times v output ≡ told n 0 [] output
  unfolding walk_of
  was_refused n f = rw (first_is refused_walk (walk_from ipv4 yard times v) refusals n f)

  -- what is not refused is the walk from the start, and so is any run from there
  has_walked : (vs : List Visit) (end : ℕ) (last : List ℕ) → NoneApplies refusals → Run (step_of ipv4) yard times v vs end last
      → ((walk_of ipv4 yard times v (length output)).visits ≡ vs) × ((walk_of ipv4 yard times v (length output)).end ≡ end)
      × ((walk_of ipv4 yard times v (length output)).last ≡ last)
  has_walked vs end last none r =
      rw (not_refused_walks ipv4_sound ipv4_writes yard times v (length output) none) (one_run ipv4_sound ipv4_writes yard times (walk_runs ipv4_sound ipv4_writes yard times v) (run_walks yard times r))

  has_told : (vs : List Visit) (end : ℕ) (last : List ℕ) → NoneApplies refusals → Run (step_of ipv4) yard times v vs end last
      → walk_told yard times v output ≡ told end (length vs) last output
  has_told vs end last none r = let is = has_walked vs end last none r in rw (is.0, is.1, is.2)

  -- a drop at the first router is a run of one visit
  dropped : (n : ℕ) → IsFirst (rows (call_at yard times v)) n → Run (step_of ipv4) yard times v (v ∷ []) n []
  unfolding blank be
  dropped n f =
      let c = call_at yard times v in
      let is : did (step_of ipv4) yard times v ≡ outcome n c.recent c.output c.note = (engine_meets c).0.drops n f in
      let number : n ≡ first_of (rows c) = noted_is (rows c) n (inl f) in
      let low = drop_numbers ipv4_sound c.arrival c.sheet c.recent (length c.output) (length c.note) in
      let answer : (did (step_of ipv4) yard times v).answer ≡ n = ap (λ (o : Outcome). o.answer) is in
      run_as yard times v (v ∷ []) (did (step_of ipv4) yard times v).answer n (sent (did (step_of ipv4) yard times v)) [] answer (ap sent is) (stays (λ e. omega arith))

  -- where the first router accepts, any run from there is the truth
  accepted : (vs : List Visit) (end : ℕ) (last : List ℕ) → NoneApplies refusals → NoneApplies (rows (call_at yard times v))
      → Run (step_of ipv4) yard times v vs end last → Truth yard times v vs end last
  accepted vs end last none accepts r =
      let is = has_walked vs end last none r in
      let starts : Starts ipv4 yard times v (length output) =
      record { not_refused = none; accepts = rw (blank-length output_size, blank-length note_size) at accepts } in
      rw (is.0, is.1, is.2) at (true_walk yard times v (length output) starts)

pub walk_meets : WalkMeets (step_of ipv4) walk_told
walk_meets yard times v output =
    record {
      refuses = was_refused yard times v output;
      drops = λ n none f. has_told yard times v output (v ∷ []) n [] none (dropped yard times v output n f);
      walks = has_told yard times v output;
      tells_truth = accepted yard times v output;
    }

-- there is a run from every visit
record Ran (yard times : List ℕ) (v : Visit) : Type 0 where
  visits : List Visit
  end : ℕ
  last : List ℕ
  is : Run (step_of ipv4) yard times v visits end last

ran : (yard times : List ℕ) (v : Visit) → Ran yard times v
ran yard times v = let w = walk_from ipv4 yard times v in record { visits = w.visits; end = w.end; last = w.last; is = walks_run yard times (walk_runs ipv4_sound ipv4_writes yard times v) }

-- two tellings that meet the demand through the product's engine are equal
module _ (yard times : List ℕ) (v : Visit) (output : List ℕ) (t t' : Told) (d : Demand3 (step_of ipv4) yard times v output t) (d' : Demand3 (step_of ipv4) yard times v output t') where
  pub one_telling : t ≡ t'
  one_telling =
      let refusals = walk_rows ipv4 yard times v (length output) in
      let r = ran yard times v in
      ⊎_elim (λ f. d.refuses (first_of refusals) f ∙ sym (d'.refuses (first_of refusals) f))
      (λ none. d.walks r.visits r.end r.last none r.is ∙ sym (d'.walks r.visits r.end r.last none r.is))
      (first_or_none refusals)

-- demand 3 leaves no choice, whatever engine it is of that meets demands 1 and 2
pub no_other_walk : (engine : Engine) (walk : Walker) → EngineMeets engine → WalkMeets engine walk → (yard times : List ℕ) (v : Visit) (output : List ℕ)
    → walk yard times v output ≡ walk_told yard times v output
no_other_walk engine walk meets walks yard times v output =
    let same : engine ≡ (step_of ipv4) =
    λ i a time sheet recent output note.
    no_other_engine engine meets (record { arrival = a; time = time; sheet = sheet; recent = recent; output = output; note = note }) i in
    let by_product : WalkMeets (step_of ipv4) walk = subst (λ (e : Engine). WalkMeets e walk) same walks in
    one_telling yard times v output (walk yard times v output) (walk_told yard times v output) (by_product yard times v output) (walk_meets yard times v output)
