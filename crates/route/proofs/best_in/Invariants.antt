-- `best_in`: after j turns the best is that of so far and j more.
use Rattle.std.proofs.Common.{◌≡◌, ◌+◌, ◌*◌}
use Rattle.route.specs.Inside.{rank_at, best_with}
use Rattle.route.proofs.best_in.Given as goal

abbrev pub invariant-loop-j : goal.invariant-loop-j
invariant-loop-j l = l.b ≡ best_with (rank_at l.sheet.bytes.now l.source l.group) (λ i. l.at + l.sheet.format.route * i) l.initial.b l.j
