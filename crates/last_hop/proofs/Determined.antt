-- Two answers that meet a function's promise are equal: what each ensures is an equation.
use mathlib.Core.Path.{◌≡◌}
use Rattle.rows.proofs.Laws.{both_are}
use Rattle.last_hop.proofs.last_hop.Reads as last_hop

pub last_hop_determined : (κs : _) (a : _) (x y : _) (e f : _) → last_hop.Post κs a x e → last_hop.Post κs a y f → x ≡ y
last_hop_determined κs a x y e f p q = both_are p q
