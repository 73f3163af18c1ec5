-- `times_of`: so many of the times are set as routers were passed.
use mathlib.Core.Path.{◌≡◌}
use lib.ListN.{length, take}
use Rattle.input.specs.Input.{times_of}
use Rattle.input.proofs.times_of.Given as goal

abbrev pub invariant-loop-i : goal.invariant-loop-i
invariant-loop-i l = (length l.times ≡ 32) × (take l.i l.times ≡ times_of l.i)
