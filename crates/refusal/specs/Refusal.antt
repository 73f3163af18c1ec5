-- Refusals and their numbers (document 01, "Drop numbers", and the refusals of walk, clock and reader).
use Rattle.std.specs.Prelude.{ℕ, Result, Ok, Err}
use Rattle.refusal.specs.declared.Refusal.{Refusal}
use Rattle.refusal.specs.declared.Refusal.TheVariants.{Room, State, Sheet, Iface, Size, MessageType, Header, Hops, Group, Source, Pair, Client, Blocks, Dest, Near, Count, Seen, LastHop, Yard, Times, Start, Request, ClockReading, ClockUnix, ClockState, NotReply, OtherPath}

-- the number of each
abbrev pub number : Refusal → ℕ
number Room = 1
number State = 2
number Sheet = 3
number Iface = 4
number Size = 5
number MessageType = 6
number Header = 7
number Hops = 8
number Group = 9
number Source = 10
number Pair = 11
number Client = 12
number Blocks = 13
number Dest = 14
number Near = 15
number Count = 16
number Seen = 17
number LastHop = 18
number Yard = 21
number Times = 22
number Start = 23
number Request = 24
number ClockReading = 31
number ClockUnix = 32
number ClockState = 33
number NotReply = 41
number OtherPath = 42

-- the number that a call comes to: 0 where it is not refused
abbrev pub number_of : {A : Type 0} → Result A Refusal → ℕ
number_of (Ok x) = 0
number_of (Err refusal) = number refusal
