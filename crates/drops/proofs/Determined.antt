-- Two answers that meet what a function ensures are equal.
use mathlib.Core.Path.{◌≡◌, sym, ◌∙◌}
use Rattle.refusal.proofs.Laws.{one_answer}
use Rattle.drops.proofs.Once.{one_verdict}
use Rattle.drops.proofs.lent_row.Reads as lent_row
use Rattle.drops.proofs.judge.Reads as judge

pub lent_row_determined : (κs : _) (a : _) (x y : _) (e f : _) → lent_row.Post κs a x e → lent_row.Post κs a y f → x ≡ y
lent_row_determined κs a x y e f p q = one_answer x y (p ∙ sym q)

pub judge_determined : (κs : _) (a : _) (x y : _) (e f : _) → judge.Post κs a x e → judge.Post κs a y f → x ≡ y
judge_determined κs a x y e f p q = one_verdict x y (p ∙ sym q)
