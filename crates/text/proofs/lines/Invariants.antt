-- `lines`: what is written so far are the lines of the type 4 blocks that were passed.
use Prim.Native.Nat.{◌-◌}
use lib.ListN.{length}
use Rattle.text.proofs.Passed.{SoFar}
use Rattle.text.proofs.lines.Given as goal

abbrev pub invariant-loop-block : goal.invariant-loop-block
invariant-loop-block l = SoFar l.m l.initial.out.items l.out.items l.at l.count

abbrev pub decreases-loop-block : goal.decreases-loop-block
decreases-loop-block l = length l.m - l.at
