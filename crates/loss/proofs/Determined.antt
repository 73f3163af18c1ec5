-- Two answers that meet a function's promise are equal: what each ensures is an equation.
use mathlib.Core.Path.{◌≡◌, ap}
use Rattle.rows.proofs.Laws.{both_are}
use Rattle.refusal.specs.Refusal.{number_of}
use Rattle.refusal.proofs.Laws.{one_answer}
use Rattle.loss.specs.Loss.{Written, written}
use Rattle.loss.proofs.check.Reads as check
use Rattle.loss.proofs.loss.Reads as loss

pub check_determined : (κs : _) (a : _) (x y : _) (e f : _) → check.Post κs a x e → check.Post κs a y f → x ≡ y
check_determined κs a x y e f p q = one_answer x y (both_are p q)

-- the number, and the bytes lent; so the answer too
pub loss_determined : (κs : _) (a : _) (x y : _) (e f : _) → loss.Post κs a x e → loss.Post κs a y f
    → written (number_of x) e.1.1.0.now ≡ written (number_of y) f.1.1.0.now
loss_determined κs a x y e f = both_are

pub loss_answer_determined : (κs : _) (a : _) (x y : _) (e f : _) → loss.Post κs a x e → loss.Post κs a y f → x ≡ y
loss_answer_determined κs a x y e f p q = one_answer x y (ap (λ (w : Written). w.number) (both_are p q))
