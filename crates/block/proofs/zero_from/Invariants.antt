-- `zero_from`: what was seen so far and what is left say together what is asked.
use Rattle.std.proofs.Common.{◌≡◌, ◌&&◌, eqb}
use Rattle.block.specs.Inside.{zero_from}
use Rattle.block.proofs.zero_from.Given as goal

abbrev pub invariant-loop-i : goal.invariant-loop-i
invariant-loop-i l = (eqb l.some 0 && zero_from l.b l.i) ≡ zero_from l.b l.from
