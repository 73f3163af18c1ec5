-- `times_of`: so many of the times are set as routers were passed.
use mathlib.Core.Path.{refl}
use native.Mathlib.Omega.{arith}
use lib.ListN.{length-set}
use Rattle.input.specs.Input.{times_of}
use Rattle.input.proofs.Given.{time_set, times-set}
use Rattle.input.proofs.times_of.Goals as goal

pub loop-i-init : goal.loop-i-init
unfolding times_of
loop-i-init c = (refl, refl)

pub loop-i-preserved : goal.loop-i-preserved
loop-i-preserved c = (simp length-set (omega arith), search time_set)

pub returns : goal.returns
returns c = search times-set
