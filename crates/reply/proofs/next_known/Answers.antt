-- `next_known`: the type 4 blocks from the place on are those from here on, and a block begins here or the message ends.
use native.Mathlib.Omega.{arith}
use Rattle.reply.proofs.Filled.{sought_first, sought_here, sought_inside, sought_on, sought_fits, sought_moves, sought_over}
use Rattle.reply.proofs.next_known.Goals as goal

pub loop-here-init : goal.loop-here-init
loop-here-init c = search sought_first

pub returns-then-s-here : goal.returns-then-s-here
returns-then-s-here c =
    let known = sought_here _ _ _ c.loop-here.invariant c.loop-here-test.true c.if-s-here.true in
    record { found = known.found; fills = known.fills }

pub be16-requires : goal.be16-requires
be16-requires c = search sought_inside

pub overflow_add-here-in-loop-here : goal.overflow_add-here-in-loop-here
overflow_add-here-in-loop-here c =
    omega (arith, sought_fits _ _ _ c.loop-here.invariant c.loop-here-test.true _ c.be16.ensures)

pub loop-here-smaller : goal.loop-here-smaller
loop-here-smaller c = search sought_moves

pub loop-here-preserved : goal.loop-here-preserved
loop-here-preserved c = search sought_on

pub returns : goal.returns
returns c =
    let known = sought_over _ _ _ c.loop-here.invariant c.loop-here-test.false in
    record { found = known.found; fills = known.fills }
