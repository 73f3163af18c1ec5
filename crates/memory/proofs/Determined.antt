-- Two answers that meet a function's promise are equal: what each ensures is an equation.
use mathlib.Core.Path.{◌≡◌}
use Rattle.rows.proofs.Laws.{both_are}
use Rattle.memory.proofs.le32.Reads as le32
use Rattle.memory.proofs.le64.Reads as le64
use Rattle.memory.proofs.swapped64.Reads as swapped64

pub le32_determined : (κs : _) (a : _) (x y : _) (e f : _) → le32.Post κs a x e → le32.Post κs a y f → x ≡ y
le32_determined κs a x y e f p q = both_are p.0 q.0

pub le64_determined : (κs : _) (a : _) (x y : _) (e f : _) → le64.Post κs a x e → le64.Post κs a y f → x ≡ y
le64_determined κs a x y e f p q = both_are p.0 q.0

pub swapped64_determined : (κs : _) (a : _) (x y : _) (e f : _) → swapped64.Post κs a x e → swapped64.Post κs a y f → x ≡ y
swapped64_determined κs a x y e f p q = both_are p q
