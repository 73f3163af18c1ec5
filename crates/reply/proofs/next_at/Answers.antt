-- `next_at`: a block is not empty and lies within the message, so the place moves on and stays inside.
use native.Mathlib.Omega.{arith}
use Rattle.reply.proofs.Search.{search_inside, search_on}
use Rattle.reply.proofs.next_at.Goals as goal

pub overflow_add-at : goal.overflow_add-at
overflow_add-at c = omega (arith, search_inside _ _ c.in-Some.block c.in-Some.ensures c.loop-block.invariant.inside)

pub loop-block-preserved : goal.loop-block-preserved
loop-block-preserved c =
    let b = c.in-Some.ensures in
    let held = c.loop-block.invariant in
    record {
      inside = search_inside _ _ c.in-Some.block b held.inside;
      same = search_on _ _ c.in-Some.block b _ held.same _ c.eq.ensures c.if-eq.false;
    }
