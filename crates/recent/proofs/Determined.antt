-- Two answers that meet a function's promise are equal: what each ensures is an equation.
use mathlib.Core.Path.{◌≡◌}
use Rattle.rows.proofs.Laws.{both_are}
use Rattle.recent.proofs.check.Reads as check
use Rattle.recent.proofs.seen.Reads as seen
use Rattle.recent.proofs.enter.Reads as enter

pub check_determined : (κs : _) (a : _) (x y : _) (e f : _) → check.Post κs a x e → check.Post κs a y f → x ≡ y
check_determined κs a x y e f p q = both_are p q

pub seen_determined : (κs : _) (a : _) (x y : _) (e f : _) → seen.Post κs a x e → seen.Post κs a y f → x ≡ y
seen_determined κs a x y e f p q = both_are p q

pub enter_determined : (κs : _) (a : _) (x y : _) (e f : _) → enter.Post κs a x e → enter.Post κs a y f → e.0.now ≡ f.0.now
enter_determined κs a x y e f p q = both_are p q
