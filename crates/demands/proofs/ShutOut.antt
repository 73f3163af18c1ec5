-- Wrong programs that the demands shut out. Each is refuted by what it would do with an input or two, which the checker computes:
-- P1's Query and its like at router 0, the walks of P1, P2 and P4, clocks 10 and 2 units ahead and one at its end.
use Prim.Native.Nat.{ℕ, suc, ◌+◌, ◌-◌, ◌/◌, ◌≤◌, ◌<◌, max}
use mathlib.Core.Bool.{false}
use mathlib.Core.List.{List, []}
use mathlib.Core.Path.{◌≡◌, refl, sym, ap, ◌∙◌}
use native.Mathlib.Omega.{arith}
use lib.Dec.{lit≤}
use lib.ListN.{length, take, get_or}
use Rattle.rows.specs.Rows.{first_of, NoneApplies}
use Rattle.rows.proofs.Laws.{zero_none}
use Rattle.wire.specs.Numbers.{byte_at, be32}
use Rattle.wire.specs.Parts.{splice, blank}
use Rattle.clock.specs.declared.Clock.{Clock}
use Rattle.clock.specs.declared.Tick.{Tick}
use Rattle.clock.specs.Clock.{last_time, clock_of, issued}
use Rattle.clock.specs.Readings.{all_issues_by, times, Sound, lead}
use Rattle.header.specs.Format.{code_offset}
use Rattle.message.specs.Blocks.{standard_blocks}
use Rattle.message.specs.Room.{HasRoom}
use Rattle.drops.specs.Drop.{drop_sheet, last_drop}
use Rattle.sending.specs.Answer.{sent_on, sent_home}
use Rattle.engine.specs.Step.{Outcome, outcome, step_of}
use Rattle.yard.specs.Yard.{routers_in}
use Rattle.yard.specs.Walk.{Visit}
use Rattle.demands.specs.Engine.{Engine, Call, run, message, here, room, rows, ends, EngineMeets}
use Rattle.demands.specs.Clock.{Start, Advance, DemandClock}
use Rattle.demands.specs.Walk.{Told, Walker, call_at, WalkMeets}
use Rattle.worked.specs.Example.{address, linked_routers, request_with, two_routers, two_times, query_for, paper_query, start_with}
use Rattle.demands.proofs.EngineMet.{no_other_engine}
use Rattle.demands.proofs.WalkMet.{walk_told, no_other_walk}
use Rattle.worked.proofs.Opened.{opened}
use Rattle.format.specs.Sizes.{ipv4, room_of, output_size}

-- a Query at router 0 of the paper's yard
unfoldable asked : List ℕ → Call
asked m = call_at (two_routers 0) two_times (start_with m)

-- P1's Query, P4's; and two from a client that this router is not the last hop for, the second for a source without a route
unfoldable ten : Call
ten = asked (paper_query 10)

unfoldable one : Call
one = asked (paper_query 1)

unfoldable stranger : Call
stranger = asked (query_for 10 (address 203 0 113 9) (address 10 0 0 1))

unfoldable lost : Call
lost = asked (query_for 10 (address 10 0 0 9) (address 10 0 0 1))

-- a Request of 540 bytes whose way on has MTU 576, and comes in by 1500
unfoldable narrow : Call
narrow = call_at (linked_routers 1500 576 0) two_times (request_with 10)

-- the code of this router's block in what was sent
abbrev code_in : Call → Outcome → ℕ
code_in c o = byte_at o.output (length (message c) + code_offset)

-- all four are accepted, and have room
passes : (first_of (rows ten) ≡ 0) × (first_of (rows one) ≡ 0) × (first_of (rows stranger) ≡ 0) × (first_of (rows lost) ≡ 0)
unfolding opened asked ten one stranger lost
passes = (refl, refl, refl, refl)

accepted : (c : Call) → first_of (rows c) ≡ 0 → NoneApplies (rows c)
unfolding opened
accepted c = zero_none (rows c) refl

roomy : HasRoom ipv4 (room stranger) (message stranger) × HasRoom ipv4 (room lost) (message lost)
unfolding opened asked stranger lost
roomy = (lit≤ tt, lit≤ tt)

-- so is the narrow one, which does not end there: its way on has no room, the way in and 1472 bytes have
narrow_passes : (first_of (rows narrow) ≡ 0) × (ends narrow ≡ false)
unfolding opened narrow
narrow_passes = (refl, refl)

narrow_roomy : HasRoom ipv4 ipv4.most (message narrow) × HasRoom ipv4 (room_of ipv4 (here narrow).mtu) (message narrow)
unfolding opened narrow
narrow_roomy = (lit≤ tt, lit≤ tt)

narrow_home : (run (step_of ipv4) narrow).answer ≡ sent_home
unfolding opened narrow
narrow_home = refl

-- what the product does: its answers, the type of what it sends, and the code of the last two
answers : ((run (step_of ipv4) ten).answer ≡ sent_on) × ((run (step_of ipv4) one).answer ≡ sent_home) × ((run (step_of ipv4) stranger).answer ≡ sent_on) × ((run (step_of ipv4) lost).answer ≡ sent_home)
unfolding opened asked ten one stranger lost
answers = (refl, refl, refl, refl)

types : (byte_at (run (step_of ipv4) ten).output 0 ≡ 2) × (byte_at (run (step_of ipv4) one).output 0 ≡ 3)
unfolding opened asked ten one
types = (refl, refl)

-- where it sends P1's Request and P4's Reply to: upstream, and the client
sent-to : (be32 (run (step_of ipv4) ten).note 2 ≡ address 198 51 100 2) × (be32 (run (step_of ipv4) one).note 2 ≡ address 192 0 2 50)
unfolding opened asked ten one
sent-to = (refl, refl)

shown : code_in stranger (run (step_of ipv4) stranger) ≡ code_in lost (run (step_of ipv4) lost)
unfolding opened asked stranger lost
shown = refl

-- what was lent: 0 where a type would stand, and the same to all
lent : (byte_at ten.output 0 ≡ 0) × (byte_at (splice ten.output 0 (message ten)) 0 ≡ 1)
unfolding opened asked ten
lent = (refl, refl)

lent_alike : ten.output ≡ one.output
unfolding asked ten one
lent_alike = refl

module _ (engine : Engine) (meets : EngineMeets engine) where
  same : (c : Call) → run engine c ≡ run (step_of ipv4) c
  same = no_other_engine engine meets

  answer : (c : Call) → (run engine c).answer ≡ (run (step_of ipv4) c).answer
  answer c = ap (λ (o : Outcome). o.answer) (same c)

  type : (c : Call) → byte_at (run engine c).output 0 ≡ byte_at (run (step_of ipv4) c).output 0
  type c = ap (λ (o : Outcome). byte_at o.output 0) (same c)

  abbrev front : List ℕ → ℕ
  front s = byte_at s 0

  -- an engine that drops everything, by whatever numbers
  pub drops_everything : ((c : Call) → NoneApplies (rows c) → (run engine c).answer ≤ last_drop) → ⊥
  drops_everything wrong = omega (arith, wrong ten (accepted ten passes.0), answer ten, answers.0)

  -- one that always sends the same
  pub sends_the_same : (m : List ℕ) → ((c : Call) → NoneApplies (rows c) → (run engine c).output ≡ splice c.output 0 m) → ⊥
  sends_the_same m wrong =
      omega
      (arith, ap front (wrong ten (accepted ten passes.0)), ap front (wrong one (accepted one passes.1)), ap (λ (o : List ℕ). front (splice o 0 m)) lent_alike, type ten, type one, types)

  -- one that copies its input
  pub copies_its_input : ((c : Call) → NoneApplies (rows c) → (run engine c).output ≡ splice c.output 0 (message c)) → ⊥
  copies_its_input wrong = omega (arith, ap front (wrong ten (accepted ten passes.0)), type ten, types.0, lent.1)

  -- one that answers and writes nothing
  pub writes_nothing : ((c : Call) → NoneApplies (rows c) → (run engine c).output ≡ c.output) → ⊥
  writes_nothing wrong = omega (arith, ap front (wrong ten (accepted ten passes.0)), type ten, types.0, lent.0)

  -- one that sends all it sends to one place
  pub sends_astray : (place : ℕ) → ((c : Call) → NoneApplies (rows c) → be32 (run engine c).note 2 ≡ place) → ⊥
  sends_astray place wrong =
      let goes : (c : Call) → be32 (run engine c).note 2 ≡ be32 (run (step_of ipv4) c).note 2 = λ c. ap (λ (o : Outcome). be32 o.note 2) (same c) in
      omega (arith, wrong ten (accepted ten passes.0), wrong one (accepted one passes.1), goes ten, goes one, sent-to)

  -- one that ends on the code shown, by whatever rule
  pub ends_on_the_code : (rule : ℕ → ℕ) → ((c : Call) → NoneApplies (rows c) → HasRoom ipv4 (room c) (message c) → (run engine c).answer ≡ rule (code_in c (run engine c))) → ⊥
  ends_on_the_code rule wrong =
      let code : (c : Call) → code_in c (run engine c) ≡ code_in c (run (step_of ipv4) c) = λ c. ap (code_in c) (same c) in
      let one_rule : rule (code_in stranger (run engine stranger)) ≡ rule (code_in lost (run engine lost)) =
      ap rule (code stranger ∙ shown ∙ sym (code lost)) in
      omega
      (arith, wrong stranger (accepted stranger passes.2) roomy.0, wrong lost (accepted lost passes.3) roomy.1, answer stranger, answer lost, answers)

  -- one that has 1472 bytes of room on every link, and one that has what the link leaves by which the message came
  pub has_room_of_its_own : ((c : Call) → NoneApplies (rows c) → HasRoom ipv4 ipv4.most (message c) → ends c ≡ false → (run engine c).answer ≡ sent_on) → ⊥
  has_room_of_its_own wrong =
      omega (arith, wrong narrow (accepted narrow narrow_passes.0) narrow_roomy.0 narrow_passes.1, answer narrow, narrow_home)

  pub has_room_behind_it : ((c : Call) → NoneApplies (rows c) → HasRoom ipv4 (room_of ipv4 (here c).mtu) (message c) → ends c ≡ false → (run engine c).answer ≡ sent_on) → ⊥
  has_room_behind_it wrong =
      omega (arith, wrong narrow (accepted narrow narrow_passes.0) narrow_roomy.1 narrow_passes.1, answer narrow, narrow_home)

-- such engines as they would be written: by 3; a copy sent on; 101 and nothing written
pub drops_by_3 : EngineMeets (λ a time sheet recent output note. outcome drop_sheet recent output note) → ⊥
drops_by_3 meets = drops_everything _ meets (λ c none. lit≤ tt)

pub copies : EngineMeets (λ a time sheet recent output note. outcome sent_on recent (splice output 0 a.message) note) → ⊥
copies meets = copies_its_input _ meets (λ c none. refl)

pub answers_alone : EngineMeets (λ a time sheet recent output note. outcome sent_home recent output note) → ⊥
answers_alone meets = writes_nothing _ meets (λ c none. refl)

-- the walks of P1, P4 and P2
abbrev at : Walker → ℕ → ℕ → Told
at walk upstream hops = walk (two_routers upstream) two_times (start_with (paper_query hops)) (blank output_size)

abbrev loop : ℕ
loop = address 198 51 100 1

-- the blocks that a walk tells of
abbrev told_blocks : Told → List (List ℕ)
told_blocks t = standard_blocks ipv4 (take t.answer.length t.output)

steps : ((at walk_told 0 10).answer.steps ≡ 2) × ((at walk_told 0 1).answer.steps ≡ 1) × ((at walk_told loop 10).answer.steps ≡ 10)
unfolding opened
steps = (refl, refl, refl)

-- the two blocks of P1, by their outgoing addresses
blocks : (length (told_blocks (at walk_told 0 10)) ≡ 2) × (be32 (get_or (told_blocks (at walk_told 0 10)) 0 []) 12 ≡ address 192 0 2 1)
    × (be32 (get_or (told_blocks (at walk_told 0 10)) 1 []) 12 ≡ address 198 51 100 2)
unfolding opened
blocks = (refl, refl, refl)

two : routers_in (two_routers loop) ≡ 2
unfolding opened
two = refl

module _ (engine : Engine) (walk : Walker) (meets : EngineMeets engine) (walks : WalkMeets engine walk) where
  tells : (upstream hops : ℕ) → at walk upstream hops ≡ at walk_told upstream hops
  tells upstream hops = no_other_walk engine walk meets walks (two_routers upstream) two_times (start_with (paper_query hops)) (blank output_size)

  steps_of : (upstream hops : ℕ) → (at walk upstream hops).answer.steps ≡ (at walk_told upstream hops).answer.steps
  steps_of upstream hops = ap (λ (t : Told). t.answer.steps) (tells upstream hops)

  -- a walk that works at its first router and then copies: each block is the one before it
  pub copies_its_block : ((yard times : List ℕ) (v : Visit) (output : List ℕ) (k : ℕ) → suc k < length (told_blocks (walk yard times v output))
      → get_or (told_blocks (walk yard times v output)) (suc k) [] ≡ get_or (told_blocks (walk yard times v output)) k []) → ⊥
  copies_its_block wrong =
      let is : told_blocks (at walk 0 10) ≡ told_blocks (at walk_told 0 10) = ap told_blocks (tells 0 10) in
      let there : 1 < length (told_blocks (at walk 0 10)) = rw is (omega (arith, blocks.0)) in
      let alike = rw is at (wrong (two_routers 0) two_times (start_with (paper_query 10)) (blank output_size) 0 there) in
      omega (arith, ap (λ (b : List ℕ). be32 b 12) alike, blocks.1, blocks.2)

  -- one that stops at its first router
  pub stops_at_the_first : ((yard times : List ℕ) (v : Visit) (output : List ℕ) → (walk yard times v output).answer.steps ≤ 1) → ⊥
  stops_at_the_first wrong = omega (arith, wrong (two_routers 0) two_times (start_with (paper_query 10)) (blank output_size), steps_of 0 10, steps.0)

  -- one with an invented number of steps
  pub invents_its_steps : (k : ℕ) → ((yard times : List ℕ) (v : Visit) (output : List ℕ) → (walk yard times v output).answer.steps ≡ k) → ⊥
  invents_its_steps k wrong =
      omega
      (arith, wrong (two_routers 0) two_times (start_with (paper_query 10)) (blank output_size), wrong (two_routers 0) two_times (start_with (paper_query 1)) (blank output_size), steps_of 0 10, steps_of 0 1, steps)

  -- one that refuses a second visit, and so has no more steps than there are routers
  pub refuses_a_second_visit : ((yard times : List ℕ) (v : Visit) (output : List ℕ) → (walk yard times v output).answer.steps ≤ routers_in yard) → ⊥
  refuses_a_second_visit wrong =
      omega (arith, wrong (two_routers loop) two_times (start_with (paper_query 10)) (blank output_size), steps_of loop 10, steps, two)

-- what a clock does that meets its demand, in some calls, and the clocks that do otherwise
module _ (start : Start) (advance : Advance) (d : DemandClock start advance) where
  abbrev Accepts : Clock → ℕ → Type 0
  Accepts c t = (advance c t).number ≡ 0

  abbrev Issues : Clock → ℕ → ℕ → Type 0
  Issues c t n = Accepts c t × ((advance c t).time ≡ n) × ((advance c t).clock ≡ clock_of t n)

  issues_it : (c : Clock) (t n : ℕ) → advance c t ≡ issued t n → Issues c t n
  issues_it c t n e = (ap (λ (k : Tick). k.number) e, ap (λ (k : Tick). k.time) e, ap (λ (k : Tick). k.clock) e)

  -- 10 ahead, and the reading rises by 10 and by 11
  even : Issues (clock_of 0 10) 10 15
  even = issues_it _ _ _ (d.forth 0 10 10 (lit≤ tt) (lit≤ tt) (lit≤ tt) (lit≤ tt))

  odd : Issues (clock_of 0 10) 11 15
  odd = issues_it _ _ _ (d.forth 0 10 11 (lit≤ tt) (lit≤ tt) (lit≤ tt) (lit≤ tt))

  -- 2 ahead, and it stands still and falls
  stood : Issues (clock_of 8 10) 8 11
  stood = issues_it _ _ _ (d.forth 8 10 8 (lit≤ tt) (lit≤ tt) (lit≤ tt) (lit≤ tt))

  fell : Issues (clock_of 8 10) 4 11
  fell = issues_it _ _ _ (d.back 8 10 4 (lit≤ tt) (lit≤ tt) (lit≤ tt) (lit≤ tt))

  -- a clock that repeats a time: a single one, from whatever start and by whatever readings
  pub repeats_a_time : (t : ℕ) (ts : List ℕ) (j k : ℕ) → let all = times (all_issues_by start advance t ts) in
      j < k → k < length all → get_or all j 0 ≡ get_or all k 0 → ⊥
  repeats_a_time = d.never_twice

  -- one that stands with its host
  pub stands_still : ((c : Clock) → Accepts c c.r → (advance c c.r).time ≡ c.y) → ⊥
  stands_still wrong = omega (arith, wrong (clock_of 8 10) stood.0, stood.1)

  -- one that stays where its host falls back
  pub stays_at_a_fall : ((c : Clock) (t : ℕ) → Accepts c t → t < c.r → (advance c t).time ≡ c.y) → ⊥
  stays_at_a_fall wrong = omega (arith, wrong (clock_of 8 10) 4 fell.0 (lit≤ tt), fell.1)

  -- one that steps back with its host
  pub steps_back : ((c : Clock) (t : ℕ) → Accepts c t → t < c.r → (advance c t).time ≡ t) → ⊥
  steps_back wrong = omega (arith, wrong (clock_of 8 10) 4 fell.0 (lit≤ tt), fell.1)

  -- one that freezes until its host has caught up
  pub freezes : ((c : Clock) (t : ℕ) → Accepts c t → (advance c t).time ≡ max t c.y) → ⊥
  freezes wrong = omega (arith, wrong (clock_of 0 10) 10 even.0, even.1)

  -- one that goes on by the least there is until then
  pub crawls : ((c : Clock) (t : ℕ) → Accepts c t → (advance c t).time ≡ max t (c.y + 1)) → ⊥
  crawls wrong = omega (arith, wrong (clock_of 0 10) 10 even.0, even.1)

  -- one that works off its lead at full rate: by as much as the reading rose
  pub works_off_at_full_rate : ((c : Clock) (t : ℕ) → Accepts c t → c.r ≤ t → lead (advance c t).clock ≡ lead c - (t - c.r)) → ⊥
  works_off_at_full_rate wrong =
      omega (arith, wrong (clock_of 0 10) 10 even.0 (lit≤ tt), ap (λ (c : Clock). lead c) even.2)

  -- one that keeps its lead
  pub keeps_its_lead : ((c : Clock) (t : ℕ) → Accepts c t → c.r ≤ t → (advance c t).time ≡ c.y + (t - c.r)) → ⊥
  keeps_its_lead wrong = omega (arith, wrong (clock_of 0 10) 10 even.0 (lit≤ tt), even.1)

  -- one that adds the step to the half
  pub adds_to_the_half : ((c : Clock) (t : ℕ) → Accepts c t → c.r ≤ t → (advance c t).time ≡ max t (c.y + (t - c.r) / 2 + 1)) → ⊥
  adds_to_the_half wrong = omega (arith, wrong (clock_of 0 10) 10 even.0 (lit≤ tt), even.1)

  -- one that rounds the half up
  pub rounds_up : ((c : Clock) (t : ℕ) → Accepts c t → c.r ≤ t → (advance c t).time ≡ max t (max (c.y + (t - c.r + 1) / 2) (c.y + 1))) → ⊥
  rounds_up wrong = omega (arith, wrong (clock_of 0 10) 11 odd.0 (lit≤ tt), odd.1)

  -- one that never comes to an end
  pub never_ends : ((c : Clock) (t : ℕ) → Sound c → t ≤ last_time → Accepts c t) → ⊥
  never_ends wrong =
      omega
      (arith, wrong (clock_of 0 last_time) 0 (record { leads = lit≤ tt; within = lit≤ tt }) (lit≤ tt), ap (λ (k : Tick). k.number) (d.spent 0 last_time 0 (lit≤ tt) refl))
