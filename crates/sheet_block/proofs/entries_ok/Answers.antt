-- `entries_ok`: the first j entries keep their rules.
use Rattle.std.proofs.Common.{refl, rules}
use Rattle.sheet_block.specs.Every.{every}
use Rattle.sheet_block.proofs.Laws.{every-next, every_stops}
use Rattle.sheet_block.proofs.entries_ok.Goals as goal

pub loop-j-init : goal.loop-j-init
unfolding every
loop-j-init g c = refl

pub returns-then-not-right : goal.returns-then-not-right
returns-then-not-right g c = every_stops _ c.right.result _ c.loop-j.j (search rules) (search rules) c.loop-j-test.true

pub loop-j-preserved : goal.loop-j-preserved
loop-j-preserved g c = search (every-next, rules)
