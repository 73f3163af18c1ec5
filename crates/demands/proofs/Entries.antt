-- Of the code: the ten entries that a host calls. Each has its own theorem, with no `requires`: on every input it ends, does nothing
-- undefined, and leaves what its `ensures` says (`Post`), which here is carried to the demands.
use Prim.Native.Nat.{ℕ, ◌+◌, ◌^◌, ◌≤◌, ◌<◌}
use mathlib.Core.Path.{◌≡◌, refl, sym, ap, subst, ◌∙◌}
use mathlib.Core.List.{List, ◌++◌}
use borrow.Author.Tests.{lt-ltb, le-ltb, eq-eqb, ne_eqb, ltb-true, ltb-false}
use mathlib.Core.Logic.{⊎_elim}
use lib.ListN.{length}
use lib.Seq.{take-append_seam}
use Rattle.rows.specs.Rows.{by_first, NoneApplies}
use Rattle.rows.proofs.Laws.{decided}
use Rattle.wire.specs.Numbers.{be, bytes, be32, bytes32}
use Rattle.wire.specs.Parts.{splice}
use Rattle.wire.proofs.Laws.{be_within, splice_front}
use native.Mathlib.Omega.{arith}
use native.Mathlib.Nat.{zero-add}
use lib.Dec.{lit≤}
use Rattle.clock.specs.declared.Tick.{Tick}
use Rattle.clock.specs.Clock.{clock_of, start_of, advance_of, arrival_of}
use Rattle.unix.specs.Unix.{unix_of}
use Rattle.drops.specs.Arrival.{arrival}
use Rattle.drops.specs.Drop.{drop_room}
use Rattle.sending.specs.Answer.{sent_home}
use Rattle.engine.specs.Step.{Outcome, outcome, step_of}
use Rattle.yard.specs.Walk.{Visit, visit, Walk, walk_rows, walk_of, walked_of}
use Rattle.header.specs.Format.{standard_size}
use Rattle.message.specs.Blocks.{standard_count}
use Rattle.message.specs.Room.{is_full}
use Rattle.message.proofs.Laws.{standard_blocks-count}
use Rattle.ticks.specs.Ticks.{tick_size, tick_bytes, TickMeets}
use Rattle.servicebough.specs.Answers.{Handed, handed, answer_left, walked_bytes, walk_handed, answer_size}
use Rattle.servicebough.proofs.bough_clock_start.Statement as clock_start
use Rattle.servicebough.proofs.bough_clock_start.Met as clock_start_proof
use Rattle.servicebough.proofs.bough_clock_start.Reads as clock_start_ensures
use Rattle.servicebough.proofs.bough_clock_advance.Statement as clock_advance
use Rattle.servicebough.proofs.bough_clock_advance.Met as clock_advance_proof
use Rattle.servicebough.proofs.bough_clock_advance.Reads as clock_advance_ensures
use Rattle.servicebough.proofs.bough_clock_unix.Statement as clock_unix
use Rattle.servicebough.proofs.bough_clock_unix.Met as clock_unix_proof
use Rattle.servicebough.proofs.bough_clock_unix.Reads as clock_unix_ensures
use Rattle.servicebough.proofs.bough_clock_arrival.Statement as clock_arrival
use Rattle.servicebough.proofs.bough_clock_arrival.Met as clock_arrival_proof
use Rattle.servicebough.proofs.bough_clock_arrival.Reads as clock_arrival_ensures
use Rattle.servicebough.proofs.bough_engine_step.Statement as engine_step
use Rattle.servicebough.proofs.bough_engine_step.Met as engine_step_proof
use Rattle.servicebough.proofs.bough_engine_step.Reads as engine_step_ensures
use Rattle.servicebough.proofs.bough_walk.Statement as walk
use Rattle.servicebough.proofs.bough_walk.Met as walk_proof
use Rattle.servicebough.proofs.bough_walk.Reads as walk_ensures
use Rattle.servicebough.proofs.bough_reply_check.Statement as reply_check
use Rattle.servicebough.proofs.bough_reply_check.Met as reply_check_proof
use Rattle.servicebough.proofs.bough_reply_next.Statement as reply_next
use Rattle.servicebough.proofs.bough_reply_next.Met as reply_next_proof
use Rattle.servicebough.proofs.bough_reply_loss.Statement as reply_loss
use Rattle.servicebough.proofs.bough_reply_loss.Met as reply_loss_proof
use Rattle.servicebough.proofs.bough_arrival_difference.Statement as arrival_difference
use Rattle.servicebough.proofs.bough_arrival_difference.Met as arrival_difference_proof
use Rattle.demands.specs.Engine.{Call, run, rows, Demand1, Demand2}
use Rattle.demands.specs.Walk.{Told, told, call_at, Run, last_received, last_room, Truth, Demand3}
use Rattle.demands.specs.Entries.{HandsTick, step_call, HandsWalk, AnswerTells}
use Rattle.demands.proofs.EngineMet.{engine_meets}
use Rattle.demands.proofs.WalkMet.{walk_told, walk_meets}
use Rattle.format.specs.Sizes.{ipv4, ipv4_sound}

-- every entry ends on every input, does nothing undefined, and leaves what it ensures
pub clock-starts : {M : Type 1} → clock_start.statement M
clock-starts = clock_start_proof.met

pub clock-advances : {M : Type 1} → clock_advance.statement M
clock-advances = clock_advance_proof.met

pub unix-converts : {M : Type 1} → clock_unix.statement M
unix-converts = clock_unix_proof.met

pub arrival-is-told : {M : Type 1} → clock_arrival.statement M
arrival-is-told = clock_arrival_proof.met

pub engine-steps : {M : Type 1} → engine_step.statement M
engine-steps = engine_step_proof.met

pub walk-is-walked : {M : Type 1} → walk.statement M
walk-is-walked = walk_proof.met

pub reply-is-checked : {M : Type 1} → reply_check.statement M
reply-is-checked = reply_check_proof.met

pub next-is-handed : {M : Type 1} → reply_next.statement M
next-is-handed = reply_next_proof.met

pub loss-is-told : {M : Type 1} → reply_loss.statement M
loss-is-told = reply_loss_proof.met

pub difference-is-told : {M : Type 1} → arrival_difference.statement M
difference-is-told = arrival_difference_proof.met

-- what a clock's entry ensures is how a tick is handed over
hands_tick : (k : Tick) (out : List ℕ) (number : ℕ) (left : List ℕ) → TickMeets k out number left → HandsTick k out number left
unfolding by_first tick_bytes
hands_tick k out number left m =
    record {
      room = λ h. (rw (m.number, lt-ltb (length out) tick_size h), rw (m.bytes, lt-ltb (length out) tick_size h));
      refused = λ h some. (rw (m.number, le-ltb (length out) tick_size h, ne_eqb k.number 0 some), rw (m.bytes, le-ltb (length out) tick_size h, ne_eqb k.number 0 some));
      accepted = λ h zero. (rw (m.number, le-ltb (length out) tick_size h, zero), rw (m.bytes, le-ltb (length out) tick_size h, eq-eqb k.number 0 zero));
    }

pub start_is_handed : (κs : _) (a : _) (x : _) (e : _) → clock_start_ensures.Post κs a x e → HandsTick (start_of a.0) a.1.0.now x e.1.0.now
start_is_handed κs a x e p = hands_tick (start_of a.0) a.1.0.now x e.1.0.now p

pub advance_is_handed : (κs : _) (a : _) (x : _) (e : _) → clock_advance_ensures.Post κs a x e
    → HandsTick (advance_of (clock_of a.0 a.1.0) a.1.1.0) a.1.1.1.0.now x e.1.1.1.0.now
advance_is_handed κs a x e p = hands_tick (advance_of (clock_of a.0 a.1.0) a.1.1.0) a.1.1.1.0.now x e.1.1.1.0.now p

pub unix_is_handed : (κs : _) (a : _) (x : _) (e : _) → clock_unix_ensures.Post κs a x e → x ≡ (unix_of a.0 a.1.0).units
unix_is_handed κs a x e p = p

pub arrival_is_handed : (κs : _) (a : _) (x : _) (e : _) → clock_arrival_ensures.Post κs a x e → x ≡ arrival_of a.0
arrival_is_handed κs a x e p = p

step_is : (c : Call) (o : Outcome) → o ≡ run (step_of ipv4) c → Demand1 c o × Demand2 c o
step_is c o e = subst (λ (x : Outcome). Demand1 c x × Demand2 c x) (sym e) (engine_meets c)

-- demands 1 and 2 hold of what a step leaves
pub step_is_handed : (κs : _) (a : _) (x : _) (e : _) → engine_step_ensures.Post κs a x e
    → let c =
    step_call a.0.now a.1.0 a.1.1.0 a.1.1.1.0 a.1.1.1.1.0 a.1.1.1.1.1.0.now a.1.1.1.1.1.1.0.now a.1.1.1.1.1.1.1.0.now a.1.1.1.1.1.1.1.1.0.now in
    let o = outcome x e.1.1.1.1.1.1.0.now e.1.1.1.1.1.1.1.0.now e.1.1.1.1.1.1.1.1.0.now in
    Demand1 c o × Demand2 c o
step_is_handed κs a x e p =
    step_is
    (step_call a.0.now a.1.0 a.1.1.0 a.1.1.1.0 a.1.1.1.1.0 a.1.1.1.1.1.0.now a.1.1.1.1.1.1.0.now a.1.1.1.1.1.1.1.0.now a.1.1.1.1.1.1.1.1.0.now)
    (outcome x e.1.1.1.1.1.1.0.now e.1.1.1.1.1.1.1.0.now e.1.1.1.1.1.1.1.1.0.now) p

-- what the walk's entry ensures is how a telling is handed over
module _ (yard times : List ℕ) (v : Visit) (output answer : List ℕ) (number : ℕ) (output' answer' : List ℕ)
    (meets : handed number output' answer' ≡ walk_handed (walk_of ipv4 yard times v (length output)) output answer) where
  abbrev w : Walk
  w = walk_of ipv4 yard times v (length output)

  short : length answer < answer_size → handed number output' answer' ≡ handed drop_room output answer
  unfolding walk_handed by_first
  short h = meets ∙ rw (lt-ltb (length answer) answer_size h)

  long : answer_size ≤ length answer → handed number output' answer' ≡ handed w.end (splice output 0 w.last) (answer_left (walked_of ipv4 w) answer)
  unfolding walk_handed by_first
  long h = meets ∙ rw (le-ltb (length answer) answer_size h)

  abbrev its_number : Handed → ℕ
  its_number h = h.number

  abbrev its_output : Handed → List ℕ
  its_output h = h.output

  abbrev its_answer : Handed → List ℕ
  its_answer h = h.answer

  hands_walk : HandsWalk (walk_told yard times v output) output answer number output' answer'
  unfolding answer_left walked_bytes
  hands_walk =
      record {
        room = λ h. (ap its_number (short h), ap its_output (short h), ap its_answer (short h));
        ends = λ h. (ap its_number (long h), ap its_output (long h));
        stays = λ h low. ap its_answer (long h) ∙ rw (lt-ltb w.end sent_home low);
        answers = λ h high. ap its_answer (long h) ∙ rw (le-ltb w.end sent_home high);
      }

-- demand 3 holds of what a walk tells, and so it is handed over
pub walk_is_handed : (κs : _) (a : _) (x : _) (e : _) → walk_ensures.Post κs a x e
    → let yard = a.0.now in
    let times = a.1.0.now in
    let v = visit a.1.1.1.0 (arrival a.1.1.0.now a.1.1.1.1.1.0 a.1.1.1.1.0 a.1.1.1.1.1.1.0) in
    let output = a.1.1.1.1.1.1.1.0.now in
    let t = walk_told yard times v output in
    Demand3 (step_of ipv4) yard times v output t
    × HandsWalk t output a.1.1.1.1.1.1.1.1.0.now x e.1.1.1.1.1.1.1.0.now e.1.1.1.1.1.1.1.1.0.now
walk_is_handed κs a x e p =
    let v = visit a.1.1.1.0 (arrival a.1.1.0.now a.1.1.1.1.1.0 a.1.1.1.1.0 a.1.1.1.1.1.1.0) in
    (walk_meets a.0.now a.1.0.now v a.1.1.1.1.1.1.1.0.now, hands_walk a.0.now a.1.0.now v a.1.1.1.1.1.1.1.0.now a.1.1.1.1.1.1.1.1.0.now x _ _ p)

-- four numbers of 32 bits, written one behind the other over the first bytes of a list, are read back
module _ (answer : List ℕ) (room : answer_size ≤ length answer) (a b c d : ℕ) where
  abbrev four : List ℕ
  four = bytes32 a ++ bytes32 b ++ bytes32 c ++ bytes32 d

  four_long : length four ≡ answer_size
  unfolding bytes
  four_long = refl

  at_place : (k : ℕ) → k + 4 ≤ answer_size → be32 (splice answer 0 four) k ≡ be32 four k
  at_place k h =
      ap (be32 (splice answer 0 four)) (sym (zero-add k)) ∙ be_within answer 0 four (omega (arith, four_long)) 2 k (omega (arith, four_long))

  read_back : a < 2 ^ 32 → b < 2 ^ 32 → c < 2 ^ 32 → d < 2 ^ 32
      → (be32 (splice answer 0 four) 0 ≡ a) × (be32 (splice answer 0 four) 4 ≡ b) × (be32 (splice answer 0 four) 8 ≡ c) × (be32 (splice answer 0 four) 12 ≡ d)
  unfolding be bytes
  read_back ha hb hc hd = (
    at_place 0 (lit≤ tt) ∙ omega arith,
    at_place 4 (lit≤ tt) ∙ omega arith,
    at_place 8 (lit≤ tt) ∙ omega arith,
    at_place 12 (lit≤ tt) ∙ omega arith,
  )

-- the 16 bytes of a walk that its first router accepts
module _ (yard times : List ℕ) (v : Visit) (output answer : List ℕ) (number : ℕ) (output' answer' : List ℕ) (room : answer_size ≤ length answer)
    (hands : HandsWalk (walk_told yard times v output) output answer number output' answer') (none : NoneApplies (walk_rows ipv4 yard times v (length output)))
    (accepts : NoneApplies (rows (call_at yard times v))) (visits : List Visit) (end : ℕ) (last : List ℕ) (is : Run (step_of ipv4) yard times v visits end last) where
  tells : walk_told yard times v output ≡ told end (length visits) last output
  tells = (walk_meets yard times v output).walks visits end last none is

  true : Truth yard times v visits end last
  true = (walk_meets yard times v output).tells_truth visits end last none accepts is

  comes_home : sent_home ≤ end
  comes_home = ⊎_elim (λ e. omega arith) (λ e. ⊎_elim (λ f. omega arith) (λ f. omega arith) e) true.ends

  few_blocks : standard_count ipv4 last ≤ length visits
  few_blocks =
      ⊎_elim (λ e. omega (arith, true.count_full (ltb-true (last_room yard times v visits end last) (length (last_received yard times v visits end last) + standard_size) e), standard_blocks-count ipv4_sound last))
      (λ e. omega (arith, true.count (ltb-false (last_room yard times v visits end last) (length (last_received yard times v visits end last) + standard_size) e), standard_blocks-count ipv4_sound last))
      (decided (is_full ipv4 (last_room yard times v visits end last) (last_received yard times v visits end last)))

  pub answer_tells : AnswerTells yard times v visits end last output' answer'
  answer_tells =
      let given = subst (λ (t : Told). HandsWalk t output answer number output' answer') tells hands in
      let read = read_back answer room end (length visits) (standard_count ipv4 last) (length last) (⊎_elim (λ e. omega arith) (λ e. ⊎_elim (λ f. omega arith) (λ f. omega arith) e) true.ends) (omega (arith, true.by_room)) (omega (arith, few_blocks, true.by_room)) (omega (arith, true.by_size)) in
      let out = (given.ends room).1 in
      let bytes = given.answers room comes_home in
      record {
        says_end = rw bytes read.0;
        says_steps = rw bytes read.1;
        says_blocks = rw bytes read.2;
        says_length = rw bytes read.3;
        sends = rw (out, splice_front) (take-append_seam last _);
        truth = true;
      }
