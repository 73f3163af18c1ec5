-- `blocks_of`: a block is not empty and lies within the message, so the place moves on and stays inside.
use native.Mathlib.Omega.{arith}
use Rattle.message.proofs.Turns.{block_some, block_inside, walk_counted, walk_passed}
use Rattle.message.proofs.blocks_of.Goals as goal
use Rattle.message.proofs.blocks_of.Goals.{then-eq, else-eq}

pub overflow_add-at : goal.overflow_add-at
overflow_add-at c = omega (arith, block_inside c.requires.sound _ _ c.in-Some.block c.in-Some.ensures c.loop-block.invariant.0)

pub loop-block-preserved : goal.loop-block-preserved
loop-block-preserved c =
    let b = c.in-Some.ensures in
    let held = c.loop-block.invariant in
    let some = block_some c.requires.sound _ _ c.in-Some.block b in
    let inside = block_inside c.requires.sound _ _ c.in-Some.block b held.0 in
    elim c.if-eq.branch [
      | then-eq w ↦ (inside, omega (arith, held.1, some, w.count-is), search walk_counted)
      | else-eq w ↦ (inside, omega (arith, held.1, some, w.count-is), search walk_passed)
    ]
