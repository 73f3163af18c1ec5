-- Two outcomes that meet what a function ensures are equal: the answer, the message and its record.
use Prim.Native.Nat.{ℕ}
use mathlib.Core.List.{List}
use mathlib.Core.Path.{◌≡◌, refl}
use native.Mathlib.Omega.{arith}
use Rattle.rows.proofs.Laws.{both_are}
use Rattle.sending.specs.Answer.{Sent, number_of}
use Rattle.sending.specs.declared.Answer.{Answer}
use Rattle.sending.specs.declared.Answer.TheVariants.{SentOn, SentHome}
use Rattle.sending.specs.Inside.{Written}
use Rattle.sending.proofs.send_longer.Reads as send_longer
use Rattle.sending.proofs.send_full.Reads as send_full
use Rattle.sending.proofs.U32FromAnswer.from.Reads as from

-- an answer is settled by its number
pub one_sent : (x y : Answer) → number_of x ≡ number_of y → x ≡ y
one_sent SentOn SentOn e = refl
one_sent SentOn SentHome e = absurd (omega (arith, e))
one_sent SentHome SentOn e = absurd (omega (arith, e))
one_sent SentHome SentHome e = refl

written_settled : {sent : Sent} {output note output' output'' note' note'' : List ℕ} {x y : Answer} → Written sent output note (number_of x) output' note' → Written sent output note (number_of y) output'' note''
    → (x ≡ y) × (output' ≡ output'') × (note' ≡ note'')
written_settled {x = x} {y = y} p q = (one_sent x y (both_are p.says q.says), both_are p.sends q.sends, both_are p.notes q.notes)

pub send_longer_determined : (κs : _) (a : _) (x y : _) (e f : _) → send_longer.Post κs a x e → send_longer.Post κs a y f
    → (x ≡ y) × (e.1.1.1.1.1.0.now ≡ f.1.1.1.1.1.0.now) × (e.1.1.1.1.1.1.0.now ≡ f.1.1.1.1.1.1.0.now)
send_longer_determined κs a x y e f p q = written_settled p q

pub send_full_determined : (κs : _) (a : _) (x y : _) (e f : _) → send_full.Post κs a x e → send_full.Post κs a y f
    → (x ≡ y) × (e.1.1.1.1.1.0.now ≡ f.1.1.1.1.1.0.now) × (e.1.1.1.1.1.1.0.now ≡ f.1.1.1.1.1.1.0.now)
send_full_determined κs a x y e f p q = written_settled p q

-- the number of an answer
pub from_determined : (κs : _) (a : _) (x y : _) (e f : _) → from.Post κs a x e → from.Post κs a y f → x ≡ y
from_determined κs a x y e f = both_are
