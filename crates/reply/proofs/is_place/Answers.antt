-- `is_place`: whether a block begins at the place is told by the blocks from here on, which go up to the end.
use native.Mathlib.Omega.{arith}
use Rattle.reply.proofs.Starts.{past_none, come_first, come_inside, come_on, come_fits, come_moves, come_there}
use Rattle.reply.proofs.is_place.Goals as goal

pub returns-then-s-place : goal.returns-then-s-place
returns-then-s-place c = search past_none

pub loop-at-init : goal.loop-at-init
loop-at-init c = search come_first

pub be16-requires : goal.be16-requires
be16-requires c = search come_inside

pub overflow_add-at-in-loop-at : goal.overflow_add-at-in-loop-at
overflow_add-at-in-loop-at c =
    omega (arith, come_fits _ _ _ c.loop-at.invariant c.loop-at-test.true c.if-s-place.false _ c.be16.ensures)

pub loop-at-smaller : goal.loop-at-smaller
loop-at-smaller c = search come_moves

pub loop-at-preserved : goal.loop-at-preserved
loop-at-preserved c = search come_on

pub returns : goal.returns
returns c = search come_there
