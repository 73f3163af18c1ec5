-- `holds`: the address is read at the interface's place.
use Rattle.std.proofs.Common.{arith, rules}
use Rattle.sheet.proofs.Laws.{interface_few}
use Rattle.tables.proofs.Reading.{place_within, address_read}
use Rattle.tables.proofs.holds.Goals as goal

pub interface_place-requires-clause-i_lt_most_interfaces :
    goal.interface_place-requires-clause-i_lt_most_interfaces
interface_place-requires-clause-i_lt_most_interfaces c = interface_few _ _ _ c.requires.there

pub be32-requires : goal.be32-requires
be32-requires c = omega (arith, place_within c.requires.sound c.args.s.now _ _ c.interface_place.ensures c.requires.there)

pub returns : goal.returns
returns c = search (rules, address_read)
