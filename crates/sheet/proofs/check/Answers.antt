-- `check`: each return by the law of the test that led there.
use Rattle.format.specs.Sizes.{ipv4_sound}
use Rattle.sheet.proofs.Counts.{each_few}
use Rattle.sheet.proofs.Layouts.{bad_size, few_blocks, few_first, few_rest, no_interface_block, many_interfaces, bad_block, laid_out}
use Rattle.std.proofs.Common.{ap, not, rules}
use Rattle.sheet.proofs.check.Goals as goal

pub returns-then-not-size_ok : goal.returns-then-not-size_ok
returns-then-not-size_ok c = search bad_size

pub returns-then-m-eq0 : goal.returns-then-m-eq0
returns-then-m-eq0 c = search no_interface_block

pub entries_in-interfaces-requires : goal.entries_in-interfaces-requires
entries_in-interfaces-requires c = search (few_first, each_few, ipv4_sound, rules)

pub returns-then-interfaces-gt-MOST_INTERFACES : goal.returns-then-interfaces-gt-MOST_INTERFACES
returns-then-interfaces-gt-MOST_INTERFACES c = search many_interfaces

pub blocks_ok-requires : goal.blocks_ok-requires
blocks_ok-requires c = search (few_blocks, ipv4_sound, rules)

pub returns-then-not-blocks_ok : goal.returns-then-not-blocks_ok
returns-then-not-blocks_ok c = search bad_block

pub entries_in-requires : goal.entries_in-requires
entries_in-requires c = search (few_rest, each_few, ipv4_sound, rules)

pub returns : goal.returns
returns c =
    laid_out _ _ c.size_ok.ensures (ap not c.if-not-size_ok.false) _ c.interface_blocks-m.ensures _ c.if-m-eq0.false _ c.entries_in-interfaces.ensures
    c.if-interfaces-gt-MOST_INTERFACES.false _ c.blocks_ok.ensures _ c.entries_in.ensures (ap not c.if-not-blocks_ok.false)
