-- Two answers that meet what a function ensures are equal.
use mathlib.Core.Path.{◌≡◌}
use Rattle.rows.proofs.Laws.{both_are}
use Rattle.written.proofs.block_bytes.Reads as block_bytes
use Rattle.written.proofs.note_bytes.Reads as note_bytes

pub block_bytes_determined : (κs : _) (a : _) (x y : _) (e f : _) → block_bytes.Post κs a x e → block_bytes.Post κs a y f → x ≡ y
block_bytes_determined κs a x y e f = both_are

pub note_bytes_determined : (κs : _) (a : _) (x y : _) (e f : _) → note_bytes.Post κs a x e → note_bytes.Post κs a y f → x ≡ y
note_bytes_determined κs a x y e f = both_are
