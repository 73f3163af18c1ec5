-- The product's engine meets demands 1 and 2, and they leave no choice: whatever meets them gives its outcome in every call.
use Prim.Native.Nat.{ℕ, ◌+◌}
use mathlib.Core.Bool.{Bool, true, false}
use mathlib.Core.List.{◌++◌}
use mathlib.Core.Logic.{⊎_elim}
use mathlib.Core.Path.{◌≡◌, refl, sym, ap, ◌∙◌}
use native.Mathlib.Omega.{arith}
use borrow.Author.Tests.{le-ltb, lt-ltb, ltb-true, ltb-false}
use lib.Dec.{eqb}
use lib.ListN.{length, set}
use Rattle.rows.specs.Rows.{first_of, NoneApplies}
use Rattle.rows.proofs.Laws.{decided, first_or_none, noted, noted_is}
use Rattle.route_entry.specs.Route.{unknown}
use Rattle.route_entry.specs.declared.Route.{Route}
use Rattle.written.specs.declared.Block.{Block}
use Rattle.forwarding.specs.Code.{code_no_space, codes}
use Rattle.response.specs.Fill.{block_of, ends_trace}
use Rattle.written.specs.Bytes.{block_bytes}
use Rattle.header.specs.Format.{request, reply, standard_size, code_offset}
use Rattle.message.specs.Blocks.{last_standard}
use Rattle.message.specs.Room.{is_full, Full, HasRoom}
use Rattle.view.specs.Room.{link_of, room_with, room_for}
use Rattle.view.specs.View.{incoming_for, view_with}
use Rattle.sending.specs.Answer.{longer_message, longer_answer, sent_by}
use Rattle.engine.specs.Step.{Outcome, recent_after, answered_by, step_of}
use Rattle.engine.proofs.Laws.{drop_changes_nothing, taken_is_sent}
use Rattle.sending.proofs.Laws.{sent-answer}
use Rattle.demands.specs.Engine.{Engine, Call, run, message, header, chosen, here, view, mtu_by, room, rows, Demand1, BlockOf, ends, replied, passed_on, Demand2, EngineMeets}
use Rattle.format.specs.Sizes.{ipv4, room_of}
use Rattle.std.specs.Prelude.{Option, Some, None}

-- the block is one, and it is the product's
pub block_is : (c : Call) (b : Block) → BlockOf c b → b ≡ block_of (view c)
unfolding block_of view_with
block_is c b k =
    let code = noted_is (codes (view c)) b.code k.code in
    λ i. record { time = k.time i; outgoing = k.outgoing i; output = k.output i; threshold = k.threshold i; code = code i; filled = k.filled i }

pub product_block : (c : Call) → BlockOf c (block_of (view c))
unfolding block_of view_with
product_block c =
    record { time = refl; outgoing = refl; output = refl; threshold = refl; code = noted (codes (view c)); filled = refl }

-- the room that is demanded is the one that the step asks for
link_is : (c : Call) (w : Option Route) → (link_of (incoming_for ipv4 c.sheet w) (here c)).mtu ≡ mtu_by c w
unfolding incoming_for
link_is c None = refl
link_is c (Some r) = ⊎_elim (λ e. rw e) (λ e. rw e) (decided (eqb r.incoming unknown))

pub room_is : (c : Call) → room_for ipv4 c.arrival c.sheet ≡ room c
unfolding room_with
room_is c = ap (room_of ipv4) (link_is c (chosen c))

module _ (c : Call) where
  abbrev done : Outcome
  done = run (step_of ipv4) c

  module _ (none : NoneApplies (rows c)) where
    taken : done ≡ answered_by (sent_by ipv4 c.arrival c.time c.sheet) (header c) c.recent c.output c.note
    taken = taken_is_sent ipv4 c.arrival c.time c.sheet c.recent c.output c.note none

    went_full : Full ipv4 (room c) (message c) → done ≡ replied c (set (set (message c) 0 reply) (last_standard ipv4 (message c) + code_offset) code_no_space)
    unfolding sent_by recent_after
    went_full h = taken ∙ rw (room_is c, lt-ltb (room c) (length (message c) + standard_size) h)

    module _ (b : Block) (fits : HasRoom ipv4 (room c) (message c)) (k : BlockOf c b) where
      went_home : ends c ≡ true → done ≡ replied c (set (message c) 0 reply ++ block_bytes b)
      unfolding sent_by longer_answer longer_message ends_trace view_with recent_after
      went_home e = rw (block_is c b k) (taken ∙ rw (room_is c, le-ltb (room c) (length (message c) + standard_size) fits, e))

      went_on : (r : Route) → ends c ≡ false → chosen c ≡ Some r → done ≡ passed_on c r (set (message c) 0 request ++ block_bytes b)
      unfolding sent_by longer_answer longer_message ends_trace view_with recent_after
      went_on r e f = rw (block_is c b k) (taken ∙ rw (room_is c, le-ltb (room c) (length (message c) + standard_size) fits, e, f))

pub engine_meets : EngineMeets (step_of ipv4)
engine_meets c = (
  record {
    drops = drop_changes_nothing ipv4 c.arrival c.time c.sheet c.recent c.output c.note;
    answers = λ none. rw (taken c none) (sent-answer ipv4 c.arrival c.time c.sheet);
  },
  record {
    full = went_full c;
    home = λ b none room k. went_home c none b room k;
    on = λ b r none room k. went_on c none b room k r;
  },
)

-- two outcomes of one call that meet the demands are equal
module _ (c : Call) (o o' : Outcome) (d : Demand1 c o × Demand2 c o) (d' : Demand1 c o' × Demand2 c o') where
  abbrev b : Block
  b = block_of (view c)

  by_route : NoneApplies (rows c) → HasRoom ipv4 (room c) (message c) → ends c ≡ false → (w : Option Route) → chosen c ≡ w → o ≡ o'
  by_route none room e None q =
      let z : ◌≡◌ {A = Bool} true false = sym (rw q) ∙ e in let y : ◌≡◌ {A = ℕ} 0 1 = cc in absurd (omega arith)
  by_route none room e (Some r) q =
      d.1.on b r none room (product_block c) e q ∙ sym (d'.1.on b r none room (product_block c) e q)

  by_end : NoneApplies (rows c) → HasRoom ipv4 (room c) (message c) → (t : Bool) → ends c ≡ t → o ≡ o'
  by_end none room true e = d.1.home b none room (product_block c) e ∙ sym (d'.1.home b none room (product_block c) e)
  by_end none room false e = by_route none room e (chosen c) refl

  by_room : NoneApplies (rows c) → (t : Bool) → is_full ipv4 (room c) (message c) ≡ t → o ≡ o'
  by_room none true e = let h = ltb-true _ _ e in d.1.full none h ∙ sym (d'.1.full none h)
  by_room none false e = by_end none (ltb-false _ _ e) (ends c) refl

  pub one_outcome : o ≡ o'
  one_outcome =
      ⊎_elim (λ f. d.0.drops (first_of (rows c)) f ∙ sym (d'.0.drops (first_of (rows c)) f)) (λ none. by_room none (is_full ipv4 (room c) (message c)) refl)
      (first_or_none (rows c))

-- demands 1 and 2 leave no choice
pub no_other_engine : (engine : Engine) → EngineMeets engine → (c : Call) → run engine c ≡ run (step_of ipv4) c
no_other_engine engine meets c = one_outcome c (run engine c) (run (step_of ipv4) c) (meets c) (engine_meets c)
