-- Two answers that meet the walk's promise are equal, and so are the outputs as they are left.
use Prim.Native.Nat.{ℕ, ◌<◌}
use mathlib.Core.List.{List}
use mathlib.Core.Path.{◌≡◌, refl, ap}
use native.Mathlib.Omega.{arith}
use Rattle.std.specs.Prelude.{Result, Ok, Err, IfOk}
use Rattle.rows.proofs.Laws.{both_are}
use Rattle.format.specs.declared.Format.{Format}
use Rattle.refusal.specs.declared.Refusal.{Refusal}
use Rattle.refusal.proofs.Laws.{one_number, number_low}
use Rattle.yard.specs.declared.End.{End}
use Rattle.yard.specs.declared.End.TheVariants.{Dropped, SentHome, ToGroup, NobodyThere}
use Rattle.yard.specs.declared.Walked as code
use Rattle.yard.specs.Walk.{Walk, Walked, end_number, walked_by, Tells}
use Rattle.yard.proofs.walk.Reads as walk
use Rattle.yard.proofs.U32FromEnd.from.Reads as from

pub tells_settled : {F : Format} {w : Walk} {output output' output'' : List ℕ} {x y : Walked} → Tells F w output x output' → Tells F w output y output''
    → (x ≡ y) × (output' ≡ output'')
tells_settled p q = (both_are p.answer q.answer, both_are p.sends q.sends)

-- an end is settled by its number: those of drops are low, and the others differ
one_end : (a b : End) → end_number a ≡ end_number b → a ≡ b
one_end (Dropped d) (Dropped e) z = ap Dropped (one_number d e z)
one_end (Dropped d) SentHome z = absurd (omega (arith, number_low d, z))
one_end (Dropped d) ToGroup z = absurd (omega (arith, number_low d, z))
one_end (Dropped d) NobodyThere z = absurd (omega (arith, number_low d, z))
one_end SentHome (Dropped e) z = absurd (omega (arith, number_low e, z))
one_end SentHome SentHome z = refl
one_end SentHome ToGroup z = absurd (omega (arith, z))
one_end SentHome NobodyThere z = absurd (omega (arith, z))
one_end ToGroup (Dropped e) z = absurd (omega (arith, number_low e, z))
one_end ToGroup SentHome z = absurd (omega (arith, z))
one_end ToGroup ToGroup z = refl
one_end ToGroup NobodyThere z = absurd (omega (arith, z))
one_end NobodyThere (Dropped e) z = absurd (omega (arith, number_low e, z))
one_end NobodyThere SentHome z = absurd (omega (arith, z))
one_end NobodyThere ToGroup z = absurd (omega (arith, z))
one_end NobodyThere NobodyThere z = refl

-- and so is what is answered, since a walk that is not refused has a step
pub one_answer : (x y : Result code.Walked Refusal) → IfOk x (λ w. 0 < w.steps) → IfOk y (λ w. 0 < w.steps) → walked_by x ≡ walked_by y → x ≡ y
one_answer (Ok a) (Ok b) p q e =
    let end : a.end ≡ b.end = one_end a.end b.end (ap (λ (w : Walked). w.end) e) in
    let steps : a.steps ≡ b.steps = ap (λ (w : Walked). w.steps) e in
    let blocks : a.blocks ≡ b.blocks = ap (λ (w : Walked). w.blocks) e in
    let length : a.length ≡ b.length = ap (λ (w : Walked). w.length) e in
    λ d. Ok (record { end = end d; steps = steps d; blocks = blocks d; length = length d })
one_answer (Ok a) (Err f) p q e = absurd (omega (arith, p, ap (λ (w : Walked). w.steps) e))
one_answer (Err d) (Ok b) p q e = absurd (omega (arith, q, ap (λ (w : Walked). w.steps) e))
one_answer (Err d) (Err f) p q e = ap Err (one_number d f (ap (λ (w : Walked). w.end) e))

pub walk_determined : (κs : _) (a : _) (x y : _) (e f : _) → walk.Post κs a x e → walk.Post κs a y f → (x ≡ y) × (e.1.1.1.0.now ≡ f.1.1.1.0.now)
walk_determined κs a x y e f p q =
    let told = tells_settled p.0 q.0 in (one_answer x y p.1 q.1 told.0, told.1)

-- the number of an end
pub from_determined : (κs : _) (a : _) (x y : _) (e f : _) → from.Post κs a x e → from.Post κs a y f → x ≡ y
from_determined κs a x y e f = both_are
