-- Two answers that meet a function's promise are equal.
use mathlib.Core.Path.{◌≡◌}
use Rattle.rows.proofs.Laws.{both_are}
use Rattle.standard.proofs.standard_of.Reads as standard_of
use Rattle.standard.proofs.standard_at.Reads as standard_at

pub standard_of_determined : (κs : _) (a : _) (x y : _) (e f : _) → standard_of.Post κs a x e → standard_of.Post κs a y f → x ≡ y
standard_of_determined κs a x y e f p q = both_are p q

pub standard_at_determined : (κs : _) (a : _) (x y : _) (e f : _) → standard_at.Post κs a x e → standard_at.Post κs a y f → x ≡ y
standard_at_determined κs a x y e f p q = both_are p q
