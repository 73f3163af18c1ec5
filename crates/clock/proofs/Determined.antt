-- Two answers that meet a function's promise are equal.
use mathlib.Core.Path.{◌≡◌, ap}
use native.Mathlib.Omega.{arith}
use Rattle.std.specs.Prelude.{Result, Ok, Err}
use Rattle.refusal.specs.declared.Refusal.{Refusal}
use Rattle.refusal.proofs.Laws.{one_number, number_positive}
use Rattle.rows.proofs.Laws.{both_are}
use Rattle.clock.specs.declared.Clock.{Clock}
use Rattle.clock.specs.declared.Tick.{Tick}
use Rattle.clock.specs.Clock.{clock_of, tick_of}
use Rattle.clock.proofs.Clock.start.Reads as start
use Rattle.clock.proofs.Clock.advance.Reads as advance
use Rattle.clock.proofs.Clock.tick.Reads as tick
use Rattle.clock.proofs.arrival.Reads as arrival

-- an answer to a reading is settled by the tick that it says
one_tick : (c : Clock) (x y : Result Clock Refusal) → tick_of c x ≡ tick_of c y → x ≡ y
one_tick c (Ok a) (Ok b) same = ap (λ (k : Tick). Ok k.clock) same
one_tick c (Ok a) (Err f) same = absurd (omega (arith, number_positive f, ap (λ (k : Tick). k.number) same))
one_tick c (Err e) (Ok b) same = absurd (omega (arith, number_positive e, ap (λ (k : Tick). k.number) same))
one_tick c (Err e) (Err f) same = ap Err (one_number e f (ap (λ (k : Tick). k.number) same))

pub start_determined : (κs : _) (a : _) (x y : _) (e f : _) → start.Post κs a x e → start.Post κs a y f → x ≡ y
start_determined κs a x y e f p q = one_tick (clock_of 0 0) x y (both_are p q)

pub advance_determined : (κs : _) (a : _) (x y : _) (e f : _) → advance.Post κs a x e → advance.Post κs a y f → x ≡ y
advance_determined κs a x y e f p q = one_tick a.0 x y (both_are p q)

pub arrival_determined : (κs : _) (a : _) (x y : _) (e f : _) → arrival.Post κs a x e → arrival.Post κs a y f → x ≡ y
arrival_determined κs a x y e f p q = both_are p q

pub tick_determined : (κs : _) (a : _) (x y : _) (e f : _) → tick.Post κs a x e → tick.Post κs a y f → x ≡ y
tick_determined κs a x y e f p q = both_are p q
