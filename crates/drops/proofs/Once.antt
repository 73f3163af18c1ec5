-- What code answers is settled by what the definitions make of it.
use Rattle.std.specs.Prelude.{◌≡◌, Result, Ok, Err}
use Rattle.std.proofs.Common.{arith}
use mathlib.Core.Path.{ap}
use Rattle.refusal.specs.declared.Refusal.{Refusal}
use Rattle.refusal.proofs.Laws.{one_number, number_positive}
use Rattle.drops.specs.declared.Judged.{Judged}
use Rattle.drops.specs.Inside.{Verdict, drop_verdict, verdict_by}

-- what is found out of a message that is not dropped
judged : Verdict → Result Judged Refusal
judged v = Ok (record { header = v.header; blocks = v.blocks; chosen = v.chosen; proper = v.proper })

pub one_verdict : (a b : Result Judged Refusal) → verdict_by a ≡ verdict_by b → a ≡ b
unfolding drop_verdict judged
one_verdict (Ok a) (Ok b) e = ap judged e
one_verdict (Ok a) (Err f) e = absurd (omega (arith, number_positive f, ap (λ (v : Verdict). v.number) e))
one_verdict (Err d) (Ok b) e = absurd (omega (arith, number_positive d, ap (λ (v : Verdict). v.number) e))
one_verdict (Err d) (Err f) e = ap Err (one_number d f (ap (λ (v : Verdict). v.number) e))
