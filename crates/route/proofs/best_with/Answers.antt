-- `best_with`: a route that keeps the rules has its rank by its kind where it serves (`ranked`).
use Rattle.route.proofs.Turns.{kept_short, read_short}
use Rattle.route.proofs.ByKind.{not_serving, serving}
use borrow.Author.Rules.{rules}
use Rattle.route.proofs.best_with.Goals as goal

pub serves-requires : goal.serves-requires
serves-requires c = (search rules, search kept_short)

pub returns-then-not-serves : goal.returns-then-not-serves
returns-then-not-serves c = search not_serving

pub rank-requires : goal.rank-requires
rank-requires c = search read_short

pub returns : goal.returns
returns c = search serving
