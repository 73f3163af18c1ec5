-- `choose`: the route of the highest rank is the one that is chosen (`chosen_by_rank`).
use Rattle.route.proofs.Turns.{chosen_there, chosen_none, chosen_some}
use Rattle.route.proofs.choose.Goals as goal

pub returns-then-b-eq0 : goal.returns-then-b-eq0
returns-then-b-eq0 c = search chosen_none

pub route_at-requires : goal.route_at-requires
route_at-requires c = search chosen_there

pub returns : goal.returns
returns c = search chosen_some
