-- `write_longer`: the copied message, its type, and the block behind it.
use mathlib.Core.Path.{◌∙◌}
use native.Mathlib.Omega.{arith}
use lib.ListN.{length-set}
use Rattle.written.proofs.Laws.{block_length}
use Rattle.sending.proofs.Writes.{longer-written}
use Rattle.sending.proofs.write_longer.Goals as goal

pub copy_to-requires-2 : goal.copy_to-requires-2
copy_to-requires-2 c = simp length-set (omega (arith, block_length c.args.block))

pub shape_of-output : goal.shape_of-output
shape_of-output c =
    c.copy_to-2.auto.dst
    ∙ simp length-set c.copy_to.auto.dst

pub returns : goal.returns
returns c = search longer-written
