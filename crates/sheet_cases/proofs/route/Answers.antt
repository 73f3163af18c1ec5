-- `sheet_cases::route` is safe and ends. The number asked for is below the one that the check told.
use mathlib.Core.Path.{sym}
use Rattle.format.specs.Sizes.{ipv4, ipv4_sound}
use Rattle.sheet.proofs.Laws.{told_some}
use Rattle.tables.proofs.Laws.{route_placed, route_within}
use Rattle.sheet_cases.proofs.route.Goals as goal

pub route_place-requires-clause-route_bound : goal.route_place-requires-clause-route_bound
route_place-requires-clause-route_bound c =
    let told = told_some ipv4 c.args.s.now c.in_ok-l.l (sym c.in_ok-l.ensures) in
    route_placed ipv4_sound c.args.s.now c.in_ok-l.l c.args.k told.1 c.if-k-l.true

pub route_at-requires : goal.route_at-requires
route_at-requires c =
    let told = told_some ipv4 c.args.s.now c.in_ok-l.l (sym c.in_ok-l.ensures) in
    route_within ipv4_sound c.args.s.now c.in_ok-l.l c.args.k told.1 c.if-k-l.true _ c.route_place.ensures
