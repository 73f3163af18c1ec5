-- `same_path`: whether the two are over one path is told by the blocks left.
use Rattle.loss.proofs.Along.{Along}
use Rattle.loss.proofs.same_path.Given as goal

abbrev pub invariant-loop-block : goal.invariant-loop-block
invariant-loop-block l = Along l.first l.second l.block-iterator l.others
