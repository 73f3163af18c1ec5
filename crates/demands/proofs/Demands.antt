-- What is proved of the demands, in one page: each line is a theorem, and cites its proof. The demands themselves are in specs/:
-- Engine.antt (1 and 2), Clock.antt (2, the times), Walk.antt (3), Read.antt (3, of what is read), Entries.antt (how C is handed what they
-- speak of).
use Prim.Native.Nat.{ℕ, ◌+◌, ◌≤◌}
use mathlib.Core.List.{List, []}
use mathlib.Core.Path.{◌≡◌}
use denote.Ref.{Bor}
use lib.ListN.{length}
use Rattle.rows.specs.Rows.{NoneApplies}
use Rattle.clock.specs.declared.Clock.{Clock}
use Rattle.unix.specs.Unix.{Units}
use Rattle.clock.specs.Clock.{start_of, advance_of, arrival_of}
use Rattle.unix.specs.Unix.{unix_of}
use Rattle.written.specs.declared.Block.{Block}
use Rattle.written.specs.Bytes.{block_bytes}
use Rattle.tables.specs.Tables.{interface_of}
use Rattle.drops.proofs.Laws.{taken}
use Rattle.written.proofs.Laws.{ipv4_writes}
use Rattle.sending.proofs.Laws.{sent_on_fits}
use Rattle.sending.specs.Answer.{sent_on, sent_home, sent_by}
use Rattle.engine.specs.Step.{step_of}
use Rattle.standard.specs.declared.Standard.{Standard}
use Rattle.reply.specs.Reader.{Handed}
use Rattle.reply.specs.declared.Reader.{Reader}
use Rattle.reply.specs.Check.{Readable}
use Rattle.standard.specs.Standard.{standard_of}
use Rattle.reply.specs.Reader.{Opens, Calls, blocks_out}
use Rattle.yard.specs.Walk.{Visit, walk_rows}
use Rattle.demands.specs.Engine.{Engine, Call, run, rows, EngineMeets}
use Rattle.demands.specs.Clock.{Start, Advance, DemandClock, DemandUnix}
use Rattle.demands.specs.Walk.{Walker, call_at, Run, WalkMeets}
use Rattle.demands.specs.Read.{ReadTruth, BlockFits, Says}
use Rattle.worked.specs.Example.{two_routers, two_times, paper_query, start_with}
use Rattle.demands.proofs.EngineMet.{engine_meets, no_other_engine}
use Rattle.demands.proofs.ClockMet.{clock_meets, no_other_clock, unix_meets, no_other_unix}
use Rattle.demands.proofs.WalkMet.{walk_told, walk_meets, no_other_walk}
use Rattle.demands.proofs.ReadMet.{walk_readable, reading_true, one_reading, reads_back}
use Rattle.worked.proofs.Worked.{failing, examples, worked}
use Rattle.demands.proofs.Starts.{starts}
use Rattle.format.specs.Sizes.{ipv4, ipv4_sound, ip_and_udp, output_size}

-- 1 and 2. The engine meets them, and whatever does gives its outcome in every call
pub engine_is_right : EngineMeets (step_of ipv4)
engine_is_right = engine_meets

pub engine_is_one : (engine : Engine) → EngineMeets engine → (c : Call) → run engine c ≡ run (step_of ipv4) c
engine_is_one = no_other_engine

-- a Request that is sent on fits the link on which it goes: with the IP and UDP headers it does not pass the MTU of the interface that its
-- record names
pub request_fits_its_link : (c : Call) → NoneApplies (rows c)
    → let s = sent_by ipv4 c.arrival c.time c.sheet in s.answer ≡ sent_on → length s.message + ip_and_udp ≤ (interface_of ipv4 c.sheet s.note.interface).mtu
request_fits_its_link c none =
    sent_on_fits ipv4_sound ipv4_writes c.arrival c.time c.sheet c.recent (length c.output) (length c.note)
    (taken ipv4_sound c.arrival c.sheet c.recent (length c.output) (length c.note) none)

-- the clock, UNIX time and the arrival time
pub clock_is_right : DemandClock start_of advance_of
clock_is_right = clock_meets

pub clock_is_one : (start : Start) (advance : Advance) → DemandClock start advance
    → ((t : ℕ) → start t ≡ start_of t) × ((c : Clock) (t : ℕ) → advance c t ≡ advance_of c t)
clock_is_one = no_other_clock

pub unix_is_right : DemandUnix unix_of arrival_of
unix_is_right = unix_meets

pub unix_is_one : (unix : ℕ → ℕ → Units) (arrival : ℕ → ℕ) → DemandUnix unix arrival
    → ((s n : ℕ) → unix s n ≡ unix_of s n) × ((y : ℕ) → arrival y ≡ arrival_of y)
unix_is_one = no_other_unix

-- 3. The walk meets it, and whatever does, through whatever engine meets 1 and 2, tells the same of every yard
pub walk_is_right : WalkMeets (step_of ipv4) walk_told
walk_is_right = walk_meets

pub walk_is_one : (engine : Engine) (walk : Walker) → EngineMeets engine → WalkMeets engine walk → (yard times : List ℕ) (v : Visit) (output : List ℕ)
    → walk yard times v output ≡ walk_told yard times v output
walk_is_one = no_other_walk

-- Reading a walk tells the truth. A walk that comes home brings a Reply that can be read; a reader that is opened on it and called once for
-- each visit, or oftener, hands out what 3 says of the visits; and each field of what it hands out is the router's, where the numbers fit
pub walk_can_be_read : (yard times : List ℕ) (v : Visit) (output : List ℕ) (visits : List Visit) (last : List ℕ)
    → NoneApplies (walk_rows ipv4 yard times v (length output)) → NoneApplies (rows (call_at yard times v)) → Run (step_of ipv4) yard times v visits sent_home last → Readable last
walk_can_be_read = walk_readable

pub reading_is_true : (yard times : List ℕ) (v : Visit) (output : List ℕ) (visits : List Visit) (last : List ℕ)
    → NoneApplies (walk_rows ipv4 yard times v (length output)) → NoneApplies (rows (call_at yard times v)) → Run (step_of ipv4) yard times v visits sent_home last
    → (message : Bor (List ℕ)) (reader left : Reader) (hs : List Handed) → message.now ≡ last → Opens message reader → Calls reader hs left
    → length visits ≤ length hs → ReadTruth yard times v visits sent_home last (blocks_out hs)
reading_is_true = reading_true

-- whatever tells that truth is that list
pub reading_is_one : (yard times : List ℕ) (v : Visit) (visits : List Visit) (end : ℕ) (last : List ℕ) (xs ys : List Standard)
    → ReadTruth yard times v visits end last xs → ReadTruth yard times v visits end last ys → xs ≡ ys
reading_is_one = one_reading

pub fields_are_read : (b : Block) → BlockFits b → Says b (standard_of (block_bytes b))
fields_are_read = reads_back

-- what it says of traces that the first router accepts is said of some: P1's is one
pub some_trace_starts : NoneApplies (walk_rows ipv4 (two_routers 0) two_times (start_with (paper_query 10)) output_size)
    × NoneApplies (rows (call_at (two_routers 0) two_times (start_with (paper_query 10))))
some_trace_starts = starts

-- The wrong programs that the demands shut out are in ShutOut.antt; the ten entries that a host calls, and what they leave, in
-- Entries.antt. P1 to P8, and a loop of small links: none of the worked examples fails
pub worked_through : failing examples ≡ []
worked_through = worked
