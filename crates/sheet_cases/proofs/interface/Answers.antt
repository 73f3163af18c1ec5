-- `sheet_cases::interface` is safe and ends. The number asked for is below the one that the check told.
use mathlib.Core.Path.{sym}
use Rattle.format.specs.Sizes.{ipv4, ipv4_sound}
use Rattle.sheet.proofs.Laws.{told_some, interface_few}
use Rattle.tables.proofs.Laws.{place_within}
use Rattle.sheet_cases.proofs.interface.Goals as goal

pub interface_place-requires-clause-i_lt_most_interfaces :
    goal.interface_place-requires-clause-i_lt_most_interfaces
interface_place-requires-clause-i_lt_most_interfaces c =
    let told = told_some ipv4 c.args.s.now c.in_ok-l.l (sym c.in_ok-l.ensures) in
    interface_few ipv4 c.args.s.now c.args.i (rw (← told.1) c.if-i-l.true)

pub interface_at-requires : goal.interface_at-requires
interface_at-requires c =
    let told = told_some ipv4 c.args.s.now c.in_ok-l.l (sym c.in_ok-l.ensures) in
    place_within ipv4_sound c.args.s.now c.args.i _ c.interface_place.ensures (rw (← told.1) c.if-i-l.true)
