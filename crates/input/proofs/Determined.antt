-- Two answers that meet what a function ensures are equal, and so are the outputs that they leave.
use mathlib.Core.Path.{◌≡◌}
use Rattle.rows.proofs.Laws.{both_are}
use Rattle.yard.proofs.Determined.{tells_settled, one_answer}
use Rattle.input.proofs.blank.Reads as blank
use Rattle.input.proofs.walk.Reads as walk

pub blank_determined : (κs : _) (a : _) (x y : _) (e f : _) → blank.Post κs a x e → blank.Post κs a y f → x ≡ y
blank_determined κs a x y e f p q = both_are p q

pub walk_determined : (κs : _) (a : _) (x y : _) (e f : _) → walk.Post κs a x e → walk.Post κs a y f → (x ≡ y) × (e.1.0.now ≡ f.1.0.now)
walk_determined κs a x y e f p q = let told = tells_settled p.0 q.0 in (one_answer x y p.1 q.1 told.0, told.1)
