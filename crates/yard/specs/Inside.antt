-- Inside: what only the contracts of this crate's own functions cite. No entry's promise rests on it, and a reader of the definitions may pass it over.
use Rattle.std.specs.Prelude.{ℕ, ◌*◌, ◌≤◌, ◌<◌, Bool, true, List, ◌≡◌, length, get_or, eqb, cond, Some, Result, Ok, Err}
use Rattle.wire.specs.Parts.{splice}
use Rattle.sheet.specs.Sheet.{layout_of}
use Rattle.message.specs.Blocks.{standard_count}
use Rattle.drops.specs.Drop.{near_ttl}
use Rattle.drops.specs.Arrival.{arrival}
use Rattle.drops.specs.Inside.{arrived}
use Rattle.address.specs.Addresses.{multicast}
use Rattle.engine.specs.Step.{answer_of}
use Rattle.sending.specs.Answer.{Sent, sent_on}
use Rattle.yard.specs.declared.Call.{Call}
use Rattle.yard.specs.declared.Hop.{Hop}
use Rattle.yard.specs.declared.Onward.{Onward}
use Rattle.yard.specs.declared.End.{End}
use Rattle.yard.specs.declared.Yard.{Yard}
use Rattle.yard.specs.declared.Visit as code
use Rattle.yard.specs.declared.Walked.{Walked}
use Rattle.yard.specs.Yard.{sheet_size, most_routers, routers_in, sheet_at, yard_ok, holder_in}
use Rattle.yard.specs.Walk.{Visit, visit, end_by, to_group, end_number, end_of, next_of}
use Rattle.format.specs.declared.Format.{Format}

-- a visit, as code has it
abbrev pub visited : code.Visit → Visit
visited v = visit v.router (arrived v.arrival)

-- how many interfaces each of n routers has
pub record Counted (F : Format) (yard counts : List ℕ) (n : ℕ) : Type 0 where
  pub long : n ≤ length counts
  pub each : (i : ℕ) → i < n → get_or counts i 0 ≡ (layout_of F (sheet_at yard i)).interfaces

-- the check of a yard: whether it is right, and then the interfaces of its routers
pub record YardChecked (F : Format) (yard : List ℕ) (ok : Bool) (counts : List ℕ) : Type 0 where
  pub is : ok ≡ yard_ok F yard
  pub counted : ok ≡ true → Counted F yard counts (routers_in yard)

-- the routers of a yard have their sheets and their times, and the interfaces of each are counted
pub record CanEnter (F : Format) (y : Yard) : Type 0 where
  pub whole : sheet_size * routers_in y.sheets.now ≤ length y.sheets.now
  pub few : routers_in y.sheets.now ≤ most_routers
  pub timed : routers_in y.sheets.now ≤ length y.times.now
  pub counted : Counted F y.sheets.now y.interfaces (routers_in y.sheets.now)

-- a call of the engine, by numbers: its answer, and the length and the destination of what it sent
pub record CalledBy (sent : Sent) (old : List ℕ) (a l d : ℕ) (new : List ℕ) : Type 0 where
  pub answer : a ≡ sent.answer
  pub long : l ≡ length sent.message
  pub to : d ≡ sent.note.destination
  pub sends : new ≡ splice old 0 sent.message

-- and as code has it
abbrev pub Called : Sent → List ℕ → Call → List ℕ → Type 0
Called sent old r new = CalledBy sent old (answer_of r.answer) r.length r.to new

-- the end, or 100 where a message goes on
abbrev pub end_told : Result Onward End → ℕ
end_told (Ok on) = sent_on
end_told (Err end) = end_number end

-- what becomes of what was sent to an address, by the engine's answer: the end, or who holds the address
pub record Onwards (F : Format) (yard : List ℕ) (answer to : ℕ) (r : Result Onward End) : Type 0 where
  pub end : end_told r ≡ cond (eqb answer sent_on) (cond (multicast to) to_group (end_by (holder_in F yard to))) answer
  pub held : (on : Onward) → r ≡ Ok on → holder_in F yard to ≡ Some (on.router, on.interface)
  pub sent : (on : Onward) → r ≡ Ok on → on.to ≡ to

-- what becomes of what a router sent: the end, or the router and interface that are entered next
pub record Hopped (F : Format) (yard : List ℕ) (sent : Sent) (old : List ℕ) (r : Hop) (new : List ℕ) : Type 0 where
  pub end : end_told r.next ≡ end_of F yard sent
  pub long : r.length ≡ length sent.message
  pub sends : new ≡ splice old 0 sent.message
  pub next : (on : Onward) → r.next ≡ Ok on → visit on.router (arrival sent.message on.to on.interface near_ttl) ≡ next_of F yard sent
  pub there : (on : Onward) → r.next ≡ Ok on → on.router < routers_in yard

-- the end of a walk at the router that was entered last
pub record Ended (F : Format) (end : End) (sent old : List ℕ) (r : Walked) (new : List ℕ) : Type 0 where
  pub ends : r.end ≡ end
  pub steps : r.steps ≡ 1
  pub blocks : r.blocks ≡ standard_count F sent
  pub long : r.length ≡ length sent
  pub sends : new ≡ splice old 0 sent
