-- `write_link`: the verdict and 7 zeros, and three numbers behind them.
use Prim.Native.Nat.{ℕ}
use mathlib.Core.List.{List, ◌++◌}
use mathlib.Core.Path.{ap}
use lib.ListN.{drop}
use Rattle.loss.proofs.Bytes.{written_link}
use Rattle.loss.proofs.write_link.Goals as goal

pub returns : goal.returns
returns c =
    written_link c.args.l c.tally-tally.result c.verdict.result c.args.bytes.now _ _ _ _ c.requires c.tally-tally.ensures c.verdict.ensures
    (ap (λ (l : List ℕ). l ++ drop 8 c.args.bytes.now) c.copy_from_slice.ensures.after) c.put64.ensures c.put64-2.ensures c.put64-3.ensures
