-- `copy_to`: each turn pastes in one byte more.
use lib.ListN.{length-set}
use Rattle.wire.proofs.Writes.{copied_more}
use Rattle.wire.proofs.copy_to.Goals as goal

pub loop-i-preserved : goal.loop-i-preserved
loop-i-preserved c = (simp length-set (search), search copied_more)
