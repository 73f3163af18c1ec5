-- `sheets_ok`: after i turns the first i sheets are right, and their interfaces are counted.
use Prim.Native.Nat.{ℕ}
use mathlib.Core.Path.{◌≡◌, refl}
use native.Mathlib.Omega.{arith}
use lib.ListN.{length-set}
use Rattle.sheet_block.specs.Every.{every}
use Rattle.yard.proofs.Sheets.{counted_none, checked_more, checked_wrong, counted_more}
use Rattle.yard.proofs.sheets_ok.Goals as goal

pub loop-i-init : goal.loop-i-init
unfolding every
loop-i-init c = (refl, refl, search counted_none)

pub returns-in_default : goal.returns-in_default
returns-in_default c = (search checked_wrong, λ z. let y : ◌≡◌ {A = ℕ} 0 1 = cc in absurd (omega arith))

pub loop-i-preserved : goal.loop-i-preserved
loop-i-preserved c = (simp length-set (search), search checked_more, search counted_more)
