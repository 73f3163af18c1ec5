-- Two outcomes that meet what a step ensures are equal: the answer and every lent byte.
use mathlib.Core.Path.{◌≡◌, ap}
use Rattle.std.specs.Prelude.{◌<◌, Result, Ok, Err}
use native.Mathlib.Omega.{arith}
use Rattle.refusal.specs.declared.Refusal.{Refusal}
use Rattle.refusal.proofs.Laws.{one_number, number_low}
use Rattle.sending.specs.Answer.{number_of}
use Rattle.sending.specs.declared.Answer.{Answer}
use Rattle.sending.specs.declared.Answer.TheVariants.{SentOn, SentHome}
use Rattle.sending.proofs.Determined.{one_sent}
use Rattle.rows.proofs.Laws.{both_are}
use Rattle.engine.specs.Step.{Outcome, outcome, answer_of}
use Rattle.engine.proofs.step_lent.Reads as step_lent
use Rattle.engine.proofs.step.Reads as step

-- an answer is 100 or over, and a refusal's number under that
high : (a : Answer) → number_of a < 100 → ⊥
high SentOn h = absurd (omega (arith, h))
high SentHome h = absurd (omega (arith, h))

one_result : (x y : Result Answer Refusal) → answer_of x ≡ answer_of y → x ≡ y
one_result (Ok a) (Ok b) e = ap Ok (one_sent a b e)
one_result (Ok a) (Err f) e = absurd (high a (rw e (number_low f)))
one_result (Err d) (Ok b) e = absurd (high b (rw (← e) (number_low d)))
one_result (Err d) (Err f) e = ap Err (one_number d f e)

pub step_lent_determined : (κs : _) (a : _) (x y : _) (e f : _) → step_lent.Post κs a x e → step_lent.Post κs a y f
    → (x ≡ y)
    × outcome (answer_of x) e.1.1.1.0.now e.1.1.1.1.0.now e.1.1.1.1.1.0.now
    ≡ outcome (answer_of y) f.1.1.1.0.now f.1.1.1.1.0.now f.1.1.1.1.1.0.now
step_lent_determined κs a x y e f p q = (one_result x y (ap (λ (o : Outcome). o.answer) (both_are p q)), both_are p q)

pub step_determined : (κs : _) (a : _) (x y : _) (e f : _) → step.Post κs a x e → step.Post κs a y f
    → (x ≡ y)
    × outcome (answer_of x) e.1.1.1.0.now e.1.1.1.1.0.now e.1.1.1.1.1.0.now
    ≡ outcome (answer_of y) f.1.1.1.0.now f.1.1.1.1.0.now f.1.1.1.1.1.0.now
step_determined κs a x y e f p q = (one_result x y (ap (λ (o : Outcome). o.answer) (both_are p q)), both_are p q)
