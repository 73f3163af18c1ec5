-- Two answers that meet a function's promise are equal: what each ensures is an equation.
use mathlib.Core.Path.{◌≡◌}
use Rattle.rows.proofs.Laws.{both_are}
use Rattle.route.proofs.choose.Reads as choose

pub choose_determined : (κs : _) (a : _) (x y : _) (e f : _) → choose.Post κs a x e → choose.Post κs a y f → x ≡ y
choose_determined κs a x y e f p q = both_are p q
