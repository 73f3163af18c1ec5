-- Two answers that meet what a function ensures are equal.
use mathlib.Core.Path.{◌≡◌, sym, ◌∙◌}
use Rattle.forwarding.proofs.Codes.{one_byte}
use Rattle.forwarding.proofs.code_of.Reads as code_of
use Rattle.forwarding.proofs.U8FromCode.from.Reads as from

pub code_of_determined : (κs : _) (a : _) (x y : _) (e f : _) → code_of.Post κs a x e → code_of.Post κs a y f → x ≡ y
code_of_determined κs a x y e f p q = one_byte x y (p ∙ sym q)

-- the byte of a code
pub from_determined : (κs : _) (a : _) (x y : _) (e f : _) → from.Post κs a x e → from.Post κs a y f → x ≡ y
from_determined κs a x y e f p q = p ∙ sym q
