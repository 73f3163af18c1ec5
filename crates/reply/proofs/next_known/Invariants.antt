-- `next_known`: the type 4 blocks from the place on are those from here on, and a block begins here or the message ends.
use Prim.Native.Nat.{◌-◌}
use lib.ListN.{length}
use Rattle.reply.proofs.Filled.{Sought}
use Rattle.reply.proofs.next_known.Given as goal

abbrev pub invariant-loop-here : goal.invariant-loop-here
invariant-loop-here l = Sought l.s l.place l.here

abbrev pub decreases-loop-here : goal.decreases-loop-here
decreases-loop-here l = length l.s - l.here
