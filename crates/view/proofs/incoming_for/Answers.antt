-- `incoming_for`: the interface that a route of a valid sheet names is there.
use Rattle.sheet.proofs.Laws.{interface_few}
use Rattle.tables.proofs.Laws.{place_within, interface_told}
use Rattle.view.proofs.Rows.{incoming_there, incoming_known}
use Rattle.view.proofs.incoming_for.Goals as goal

pub interface_place-requires-clause-i_lt_most_interfaces : goal.interface_place-requires-clause-i_lt_most_interfaces
interface_place-requires-clause-i_lt_most_interfaces c = interface_few c.args.f c.args.sheet.now _ (search (incoming_there, c.requires.route_there))

pub interface_at-requires : goal.interface_at-requires
interface_at-requires c = search (place_within, incoming_there)

pub returns-in-Some : goal.returns-in-Some
returns-in-Some c = search (incoming_known, interface_told)
