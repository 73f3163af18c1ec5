-- `view_with`: the receiving interface is one of the sheet's.
use Rattle.sheet.proofs.Laws.{interface_few}
use Rattle.view.proofs.view_with.Goals as goal

pub interface_place-requires-clause-i_lt_most_interfaces : goal.interface_place-requires-clause-i_lt_most_interfaces
interface_place-requires-clause-i_lt_most_interfaces c = interface_few c.args.f c.args.sheet.now _ c.requires.receiving_bound
