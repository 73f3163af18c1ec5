-- `best_of`: with each block the best is that of the first k routes.
use Prim.Native.Nat.{◌≤◌, ◌-◌}
use mathlib.Core.Path.{◌≡◌}
use Rattle.route.specs.Inside.{best_of}
use Rattle.route.proofs.best_of.Given as goal

abbrev pub invariant-loop-k : goal.invariant-loop-k
invariant-loop-k l = (l.k ≤ l.sheet.layout.routes) × (l.b ≡ best_of l.sheet.format l.sheet.bytes.now l.source l.group l.k)

abbrev pub decreases-loop-k : goal.decreases-loop-k
decreases-loop-k l = l.sheet.layout.routes - l.k
