-- `best_in`: after j turns the best is that of so far and j more.
use Rattle.route.proofs.Turns.{best-start, best_more}
use Rattle.route.proofs.best_in.Goals as goal

pub loop-j-init : goal.loop-j-init
loop-j-init c = best-start _ _ _

pub loop-j-preserved : goal.loop-j-preserved
loop-j-preserved c = search best_more
