-- `walk_from`: the numbers are read from their places.
use Rattle.input.proofs.Given.{walk_from}
use Rattle.input.proofs.walk_from.Goals as goal

pub returns-clause-told : goal.returns-clause-told
returns-clause-told c = search walk_from
