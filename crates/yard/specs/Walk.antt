-- The walk (document 01, "Walk"): the routers that a trace enters, in order, with what each receives; its end; and the last
-- message sent.
use Rattle.std.specs.Prelude.{ℕ, zero, suc, not, cond, List, [], ◌∷◌, ◌≡◌, leb, ltb, eqb, length, get_or, Option, Some, None, Result, Ok, Err}
use Rattle.wire.specs.Numbers.{byte_at}
use Rattle.wire.specs.Parts.{splice}
use Rattle.address.specs.Addresses.{multicast}
use Rattle.rows.specs.Rows.{Row, row, by_first}
use Rattle.recent.specs.Entries.{empty}
use Rattle.header.specs.Format.{request, note_size}
use Rattle.message.specs.Blocks.{standard_count}
use Rattle.message.specs.Room.{hops_left}
use Rattle.drops.specs.Arrival.{Arrival, arrival}
use Rattle.drops.specs.Drop.{drop_room, near_ttl, table}
use Rattle.sending.specs.Answer.{Sent, sent_on, sent_home, sent_by}
use Rattle.yard.specs.declared.Walked as code
use Rattle.yard.specs.declared.End.{End}
use Rattle.yard.specs.declared.End.TheVariants.{Dropped, SentHome, ToGroup, NobodyThere}
use Rattle.refusal.specs.declared.Refusal.{Refusal}
use Rattle.refusal.specs.Refusal.{number}
use Rattle.yard.specs.Yard.{routers_in, sheet_at, yard_ok, holder_in}
use Rattle.format.specs.declared.Format.{Format}
use Rattle.format.specs.Sizes.{output_size}

-- the ends besides 101, a Reply: 102 sent to a group, 103 nobody holds the address
abbrev pub to_group : ℕ
to_group = 102

abbrev pub nobody_there : ℕ
nobody_there = 103

-- the refusals besides 1, output: 21 yard, 22 times, 23 start router, 24 a message of type 2
abbrev pub walk_yard : ℕ
walk_yard = 21

abbrev pub walk_times : ℕ
walk_times = 22

abbrev pub walk_start : ℕ
walk_start = 23

abbrev pub walk_request : ℕ
walk_request = 24

-- a router entered, and what arrives there
pub record Visit : Type 0 where
  pub router : ℕ
  pub arrival : Arrival

-- the visit to a router with what arrives there
abbrev pub visit : ℕ → Arrival → Visit
visit router arrival = record { router = router; arrival = arrival }

-- a drop: its number, and nothing sent
abbrev pub not_sent : ℕ → Sent
not_sent number =
    record { answer = number; message = []; note = record { length = 0; destination = 0; port = 0; interface = 0; source = 0 } }

-- the rows of the drop table at a router, with an empty recent list and all the bytes lent that are asked for
abbrev pub rows_for : Format → List ℕ → Arrival → List Row
rows_for F sheet a = table F a sheet empty output_size note_size

-- what a router sends for what arrives
unfoldable pub sent_for : Format → List ℕ → ℕ → Arrival → Sent
sent_for F sheet time a = by_first not_sent (sent_by F a time sheet) (rows_for F sheet a)

-- the router of a visit, by its sheet and its time
abbrev pub sent_at : Format → List ℕ → List ℕ → Visit → Sent
sent_at F yard times v = sent_for F (sheet_at yard v.router) (get_or times v.router 0) v.arrival

-- what a Request sent on comes to: 103, or it goes on to who holds its destination
abbrev pub end_by : Option (ℕ × ℕ) → ℕ
end_by (Some (router, interface)) = sent_on
end_by None = nobody_there

-- the end of a walk with what is sent: a drop or a Reply, 102, 103; or 100 where it goes on
unfoldable pub end_of : Format → List ℕ → Sent → ℕ
end_of F yard sent =
    let onward = end_by (holder_in F yard sent.note.destination) in
    cond (eqb sent.answer sent_on) (cond (multicast sent.note.destination) to_group onward) sent.answer

-- the visit to who holds the destination: it arrives there with TTL 255
abbrev pub next_by : Sent → Option (ℕ × ℕ) → Visit
next_by sent (Some (router, interface)) = visit router (arrival sent.message sent.note.destination interface near_ttl)
next_by sent None = visit 0 (arrival [] 0 0 0)

-- where what is sent is received next
abbrev pub next_of : Format → List ℕ → Sent → Visit
next_of F yard sent = next_by sent (holder_in F yard sent.note.destination)

-- a walk: its end, its visits in order, and the last message sent
pub record Walk : Type 0 where
  pub end : ℕ
  pub visits : List Visit
  pub last : List ℕ

-- it ends at this visit
abbrev pub ends_at : ℕ → Visit → List ℕ → Walk
ends_at end v last = record { end = end; visits = v ∷ []; last = last }

-- it goes on from this visit
abbrev pub enters : Visit → Walk → Walk
enters v later = record { end = later.end; visits = v ∷ later.visits; last = later.last }

-- refused: nobody is entered
abbrev pub refused_walk : ℕ → Walk
refused_walk number = record { end = number; visits = []; last = [] }

-- the walk from a visit on, in at most so many steps
unfoldable pub walk_by : Format → ℕ → List ℕ → List ℕ → Visit → Walk
walk_by F zero yard times v = refused_walk 0
walk_by F (suc steps) yard times v =
    let sent = sent_at F yard times v in
    let end = end_of F yard sent in
    let later = enters v (walk_by F steps yard times (next_of F yard sent)) in
    cond (eqb end sent_on) later (ends_at end v sent.message)

-- the hops that are not yet used, and one, are steps enough
unfoldable pub walk_from : Format → List ℕ → List ℕ → Visit → Walk
walk_from F yard times v = walk_by F (suc (hops_left F v.arrival.message)) yard times v

-- the refusals in their order
unfoldable pub walk_rows : Format → List ℕ → List ℕ → Visit → ℕ → List Row
walk_rows F yard times v output =
    row drop_room (ltb output output_size)
    ∷ row walk_yard (not (yard_ok F yard))
    ∷ row walk_times (ltb (length times) (routers_in yard))
    ∷ row walk_start (leb (routers_in yard) v.router)
    ∷ row walk_request (eqb (byte_at v.arrival.message 0) request)
    ∷ []

-- the first refusal that applies, or else the walk from the start
unfoldable pub walk_of : Format → List ℕ → List ℕ → Visit → ℕ → Walk
walk_of F yard times v output = by_first refused_walk (walk_from F yard times v) (walk_rows F yard times v output)

-- what is told of a walk: its end, its steps, and the blocks and the length of its last message
pub record Walked : Type 0 where
  pub end : ℕ
  pub steps : ℕ
  pub blocks : ℕ
  pub length : ℕ

-- the number of an end: that of the drop, 101 for a Reply, 102, 103
abbrev pub end_number : End → ℕ
end_number (Dropped refusal) = number refusal
end_number SentHome = sent_home
end_number ToGroup = to_group
end_number NobodyThere = nobody_there

-- as code has it
abbrev pub walked : code.Walked → Walked
walked w = record { end = end_number w.end; steps = w.steps; blocks = w.blocks; length = w.length }

-- of a walk that is refused its number alone is told
abbrev pub walked_by : Result code.Walked Refusal → Walked
walked_by (Ok w) = walked w
walked_by (Err refusal) = record { end = number refusal; steps = 0; blocks = 0; length = 0 }

-- what is answered for a walk: its end, its steps, the type 4 blocks and the length of the last message sent
abbrev pub walked_of : Format → Walk → Walked
walked_of F w =
    record { end = w.end; steps = length w.visits; blocks = standard_count F w.last; length = length w.last }

-- a walk is told: the answer is its own, and the last message sent stands in the output, whose bytes past it stay
pub record Tells (F : Format) (w : Walk) (output : List ℕ) (r : Walked) (output' : List ℕ) : Type 0 where
  pub answer : r ≡ walked_of F w
  pub sends : output' ≡ splice output 0 w.last

-- what the walk promises
abbrev pub WalkTells : Format → List ℕ → List ℕ → Visit → List ℕ → Walked → List ℕ → Type 0
WalkTells F yard times v output r output' = Tells F (walk_of F yard times v (length output)) output r output'
