-- `best_of`: with each block the best is that of the first k routes.
use mathlib.Core.Path.{refl}
use native.Mathlib.Omega.{arith}
use Rattle.tables.proofs.Laws.{route_placed, routes_beside_lem, beside_some}
use Rattle.route.specs.Inside.{best_with}
use Rattle.route.proofs.Turns.{block_more, best_all}
use Rattle.route.proofs.best_of.Goals as goal

pub loop-k-init : goal.loop-k-init
unfolding best_with
loop-k-init c = (omega arith, refl)

pub route_place-requires : goal.route_place-requires
route_place-requires c = search route_placed

pub best_in-b-requires : goal.best_in-b-requires
best_in-b-requires c = search routes_beside_lem

pub loop-k-smaller : goal.loop-k-smaller
loop-k-smaller c =
    omega (arith, beside_some c.args.sheet.sound _ _ c.loop-k-test.true)

pub loop-k-preserved : goal.loop-k-preserved
loop-k-preserved c = (omega arith, search block_more)

pub returns : goal.returns
returns c = search best_all
