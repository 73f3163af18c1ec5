-- `write_full`: the copied message, and two bytes of it set.
use native.Mathlib.Omega.{arith}
use lib.ListN.{length-set}
use Rattle.sending.proofs.Writes.{full_written}
use Rattle.sending.proofs.write_full.Goals as goal

pub bounds-output-last : goal.bounds-output-last
bounds-output-last c = simp length-set (omega arith)

pub returns : goal.returns
returns c = search full_written
