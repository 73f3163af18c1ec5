-- `holder`: the search is from the first interface on.
use Rattle.std.proofs.Common.{rules}
use Rattle.tables.proofs.Holders.{holder_found}
use Rattle.tables.proofs.holder.Goals as goal

pub returns : goal.returns
returns c = holder_found _ _ _ _ _ _ _ c.requires.interfaces_value c.find.ensures.ran (λ k b q h. search rules)
