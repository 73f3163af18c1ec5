-- A refusal's number is its own, and never 0: so what a check answers is settled by its number.
use Rattle.std.specs.Prelude.{ℕ, ◌≡◌, ◌<◌, cond, eqb, Result, Ok, Err}
use mathlib.Core.Path.{sym, ap, ◌∙◌}
use Rattle.std.proofs.Common.{refl, arith}
use Rattle.refusal.specs.declared.Refusal.{Refusal}
use Rattle.refusal.specs.declared.Refusal.TheVariants.{Room, State, Sheet, Iface, Size, MessageType, Header, Hops, Group, Source, Pair, Client, Blocks, Dest, Near, Count, Seen, LastHop, Yard, Times, Start, Request, ClockReading, ClockUnix, ClockState, NotReply, OtherPath}
use Rattle.refusal.specs.Refusal.{number, number_of}

-- the refusal of a number
named : ℕ → Refusal
named n =
    cond (eqb n 1) Room (
    cond (eqb n 2) State (
    cond (eqb n 3) Sheet (
    cond (eqb n 4) Iface (
    cond (eqb n 5) Size (
    cond (eqb n 6) MessageType (
    cond (eqb n 7) Header (
    cond (eqb n 8) Hops (
    cond (eqb n 9) Group (
    cond (eqb n 10) Source (
    cond (eqb n 11) Pair (
    cond (eqb n 12) Client (
    cond (eqb n 13) Blocks (
    cond (eqb n 14) Dest (
    cond (eqb n 15) Near (
    cond (eqb n 16) Count (
    cond (eqb n 17) Seen (
    cond (eqb n 18) LastHop (
    cond (eqb n 21) Yard (
    cond (eqb n 22) Times (
    cond (eqb n 23) Start (
    cond (eqb n 24) Request (
    cond (eqb n 31) ClockReading (
    cond (eqb n 32) ClockUnix (
    cond (eqb n 33) ClockState (
    cond (eqb n 41) NotReply (OtherPath))))))))))))))))))))))))))

named_number : (e : Refusal) → named (number e) ≡ e
unfolding named
named_number Room = refl
named_number State = refl
named_number Sheet = refl
named_number Iface = refl
named_number Size = refl
named_number MessageType = refl
named_number Header = refl
named_number Hops = refl
named_number Group = refl
named_number Source = refl
named_number Pair = refl
named_number Client = refl
named_number Blocks = refl
named_number Dest = refl
named_number Near = refl
named_number Count = refl
named_number Seen = refl
named_number LastHop = refl
named_number Yard = refl
named_number Times = refl
named_number Start = refl
named_number Request = refl
named_number ClockReading = refl
named_number ClockUnix = refl
named_number ClockState = refl
named_number NotReply = refl
named_number OtherPath = refl

-- no two refusals have one number
pub one_number : (e f : Refusal) → number e ≡ number f → e ≡ f
one_number e f same = sym (named_number e) ∙ (ap named same ∙ named_number f)

-- and none has 0
pub number_positive : (e : Refusal) → 0 < number e
number_positive Room = omega arith
number_positive State = omega arith
number_positive Sheet = omega arith
number_positive Iface = omega arith
number_positive Size = omega arith
number_positive MessageType = omega arith
number_positive Header = omega arith
number_positive Hops = omega arith
number_positive Group = omega arith
number_positive Source = omega arith
number_positive Pair = omega arith
number_positive Client = omega arith
number_positive Blocks = omega arith
number_positive Dest = omega arith
number_positive Near = omega arith
number_positive Count = omega arith
number_positive Seen = omega arith
number_positive LastHop = omega arith
number_positive Yard = omega arith
number_positive Times = omega arith
number_positive Start = omega arith
number_positive Request = omega arith
number_positive ClockReading = omega arith
number_positive ClockUnix = omega arith
number_positive ClockState = omega arith
number_positive NotReply = omega arith
number_positive OtherPath = omega arith

-- nor is one an answer: those are 100 and over
pub number_low : (e : Refusal) → number e < 100
number_low Room = omega arith
number_low State = omega arith
number_low Sheet = omega arith
number_low Iface = omega arith
number_low Size = omega arith
number_low MessageType = omega arith
number_low Header = omega arith
number_low Hops = omega arith
number_low Group = omega arith
number_low Source = omega arith
number_low Pair = omega arith
number_low Client = omega arith
number_low Blocks = omega arith
number_low Dest = omega arith
number_low Near = omega arith
number_low Count = omega arith
number_low Seen = omega arith
number_low LastHop = omega arith
number_low Yard = omega arith
number_low Times = omega arith
number_low Start = omega arith
number_low Request = omega arith
number_low ClockReading = omega arith
number_low ClockUnix = omega arith
number_low ClockState = omega arith
number_low NotReply = omega arith
number_low OtherPath = omega arith

-- a check that answers nothing else answers one thing: what its number says
pub one_answer : (x y : Result (Unit {0}) Refusal) → number_of x ≡ number_of y → x ≡ y
one_answer (Ok a) (Ok b) same = refl
one_answer (Ok a) (Err f) same = absurd (omega (arith, number_positive f))
one_answer (Err e) (Ok b) same = absurd (omega (arith, number_positive e))
one_answer (Err e) (Err f) same = ap Err (one_number e f same)
