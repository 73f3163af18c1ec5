-- `blocks_ok`: the interface blocks first, then the others.
use borrow.Author.Rules.{rules}
use Rattle.sheet.proofs.Leading.{first_kept, first_broken}
use Rattle.sheet.proofs.blocks_ok.Goals as goal

pub returns-then-run_ok : goal.returns-then-run_ok
returns-then-run_ok c =
    first_kept _ _ _ _ _ c.run_ok.ensures _ _ _ c.if-run_ok.true c.requires.m_bound.0 (search rules) (search rules) c.run_ok-then-run_ok.ensures

pub returns-else-run_ok : goal.returns-else-run_ok
returns-else-run_ok c = search (first_broken, rules)
