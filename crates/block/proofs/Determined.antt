-- Two answers that meet a function's promise are equal: what it ensures is an equation.
use Rattle.std.proofs.Common.{◌≡◌}
use Rattle.rows.proofs.Laws.{both_are}
use Rattle.block.proofs.frame_ok.Reads as frame_ok

pub frame_ok_determined : (κs : _) (a : _) (x y : _) (e f : _) → frame_ok.Post κs a x e → frame_ok.Post κs a y f → x ≡ y
frame_ok_determined κs a x y e f p q = both_are p q
