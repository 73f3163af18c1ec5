-- `walk`: what is read of the input is what it holds.
use Rattle.input.proofs.Given.{walk_asked}
use Rattle.input.proofs.walk.Goals as goal

pub returns-clause-told : goal.returns-clause-told
returns-clause-told c = search walk_asked
