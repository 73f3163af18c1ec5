-- `is_place`: whether a block begins at the place is told by the blocks from here on, which go up to the end.
use Prim.Native.Nat.{◌-◌}
use lib.ListN.{length}
use Rattle.reply.proofs.Starts.{Come}
use Rattle.reply.proofs.is_place.Given as goal

abbrev pub invariant-loop-at : goal.invariant-loop-at
invariant-loop-at l = Come l.s l.place l.at

abbrev pub decreases-loop-at : goal.decreases-loop-at
decreases-loop-at l = length l.s - l.at
