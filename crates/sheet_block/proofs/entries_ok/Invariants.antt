-- `entries_ok`: the first j entries keep their rules.
use Rattle.std.proofs.Common.{◌≡◌, true}
use Rattle.sheet_block.specs.Rules.{entries_ok}
use Rattle.sheet_block.proofs.entries_ok.Given as goal

abbrev pub invariant-loop-j : goal.invariant-loop-j
invariant-loop-j g l = true ≡ entries_ok (g.E.Entries.size l.e) (g.E.Entries.right l.e) l.b l.j
