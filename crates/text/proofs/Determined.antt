-- Two answers that meet what a function ensures are equal, and so are the texts that they leave.
use mathlib.Core.Path.{◌≡◌}
use Rattle.rows.proofs.Laws.{both_are}
use Rattle.text.proofs.text_of.Reads as text_of

pub text_of_determined : (κs : _) (a : _) (x y : _) (e f : _) → text_of.Post κs a x e → text_of.Post κs a y f
    → (x ≡ y) × (e.1.0.now ≡ f.1.0.now)
text_of_determined κs a x y e f p q = (both_are p.0.0 q.0.0, both_are p.1 q.1)
