-- `holder_in`: the whole search is the search from router i on.
use Rattle.format.specs.Sizes.{ipv4}
use Prim.Native.Nat.{◌-◌}
use mathlib.Core.Path.{◌≡◌}
use Rattle.yard.specs.Yard.{lowest_from, holder_in}
use Rattle.yard.proofs.holder_in.Given as goal

abbrev pub invariant-loop-i : goal.invariant-loop-i
invariant-loop-i l = holder_in ipv4 l.yard l.address ≡ lowest_from ipv4 l.yard l.address l.i (l.n - l.i)
