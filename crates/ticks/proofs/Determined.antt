-- Two answers that meet the promise are equal, and so are the bytes that they leave.
use Prim.Native.Nat.{ℕ}
use mathlib.Core.List.{List}
use mathlib.Core.Path.{◌≡◌}
use Rattle.rows.proofs.Laws.{both_are}
use Rattle.clock.specs.declared.Tick.{Tick}
use Rattle.ticks.specs.Ticks.{TickMeets}
use Rattle.ticks.proofs.hand_over.Reads as hand_over

pub tick_settled : {k : Tick} {out left left' : List ℕ} {n m : ℕ} → TickMeets k out n left → TickMeets k out m left' → (n ≡ m) × (left ≡ left')
tick_settled a b = (both_are a.number b.number, both_are a.bytes b.bytes)

pub hand_over_determined : (κs : _) (a : _) (x y : _) (e f : _) → hand_over.Post κs a x e → hand_over.Post κs a y f
    → (x ≡ y) × (e.1.0.now ≡ f.1.0.now)
hand_over_determined κs a x y e f p q = tick_settled p q
