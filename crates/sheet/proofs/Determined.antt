-- Two answers that meet a function's promise are equal: what each ensures is an equation.
use mathlib.Core.Path.{◌≡◌}
use Rattle.rows.proofs.Laws.{both_are}
use Rattle.sheet.proofs.check.Reads as check

pub check_determined : (κs : _) (a : _) (x y : _) (e f : _) → check.Post κs a x e → check.Post κs a y f → x ≡ y
check_determined κs a x y e f p q = both_are p q
