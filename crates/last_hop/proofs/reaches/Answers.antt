-- `reaches`: the interface is one of the sheet's, and is read at its place.
use Rattle.tables.proofs.Laws.{place_within, interface_told}
use Rattle.last_hop.proofs.Reached.{counted, bit_there, bit_set, interface_short_enough}
use Rattle.last_hop.proofs.reaches.Goals as goal

pub interface_place-requires-clause-i_lt_most_interfaces :
    goal.interface_place-requires-clause-i_lt_most_interfaces
interface_place-requires-clause-i_lt_most_interfaces c = search bit_there

pub interface_at-i-requires : goal.interface_at-i-requires
interface_at-i-requires c = search (place_within, counted)

pub same_prefix-requires : goal.same_prefix-requires
same_prefix-requires c = search (interface_short_enough, interface_told)

pub returns : goal.returns
returns c = search (bit_set, interface_told)
