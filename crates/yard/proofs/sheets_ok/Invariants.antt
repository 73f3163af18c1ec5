-- `sheets_ok`: after i turns the first i sheets are right, and their interfaces are counted.
use Rattle.format.specs.Sizes.{ipv4}
use mathlib.Core.Bool.{true}
use mathlib.Core.Path.{◌≡◌}
use lib.ListN.{length}
use Rattle.sheet_block.specs.Every.{every}
use Rattle.yard.specs.Yard.{valid_at}
use Rattle.yard.specs.Inside.{Counted}
use Rattle.yard.proofs.sheets_ok.Given as goal

abbrev pub invariant-loop-i : goal.invariant-loop-i
invariant-loop-i l = (length l.counts ≡ length l.initial.counts) × (true ≡ every (valid_at ipv4 l.yard) l.i) × Counted ipv4 l.yard l.counts l.i
