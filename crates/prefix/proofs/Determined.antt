-- Two answers that meet a function's promise are equal: what each ensures is an equation.
use mathlib.Core.Path.{◌≡◌}
use Rattle.rows.proofs.Laws.{both_are}
use Rattle.prefix.proofs.same_prefix.Reads as same_prefix
use Rattle.prefix.proofs.zero_past.Reads as zero_past

pub same_prefix_determined : (κs : _) (a : _) (x y : _) (e f : _) → same_prefix.Post κs a x e → same_prefix.Post κs a y f → x ≡ y
same_prefix_determined κs a x y e f p q = both_are p q

pub zero_past_determined : (κs : _) (a : _) (x y : _) (e f : _) → zero_past.Post κs a x e → zero_past.Post κs a y f → x ≡ y
zero_past_determined κs a x y e f p q = both_are p q
