-- Two answers that meet a function's promise are equal: what it ensures is an equation.
use mathlib.Core.Path.{◌≡◌, sym, ◌∙◌}
use Rattle.refusal.proofs.U32FromRefusal.from.Reads as from

-- the number of a refusal
pub from_determined : (κs : _) (a : _) (x y : _) (e f : _) → from.Post κs a x e → from.Post κs a y f → x ≡ y
from_determined κs a x y e f p q = p ∙ sym q
