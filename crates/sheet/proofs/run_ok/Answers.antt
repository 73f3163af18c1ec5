-- `run_ok`: all of them is each.
use borrow.Author.Rules.{rules}
use Rattle.sheet_block.proofs.Laws.{all_answered}
use Rattle.sheet.proofs.run_ok.Goals as goal

pub returns : goal.returns
returns g c = all_answered _ _ _ _ c.all.ensures.ran (λ x b q k. search rules)
