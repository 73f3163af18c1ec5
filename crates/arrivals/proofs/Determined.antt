-- Two answers that meet a function's promise are equal: what each ensures is an equation.
use Rattle.std.proofs.Common.{◌≡◌}
use Rattle.rows.proofs.Laws.{both_are}
use Rattle.arrivals.proofs.difference.Reads as difference

pub difference_determined : (κs : _) (a : _) (x y : _) (e f : _) → difference.Post κs a x e → difference.Post κs a y f → x ≡ y
difference_determined κs a x y e f = both_are
