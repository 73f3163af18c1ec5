-- `walk`: the tests are the rows' in their order, so that each refusal is that of the first row that applies.
use Rattle.format.specs.Sizes.{ipv4, ipv4_sound}
use Rattle.written.proofs.Laws.{ipv4_writes}
use Rattle.rows.specs.Rows.{by_first}
use Rattle.rows.proofs.Laws.{first}
use Rattle.yard.specs.Walk.{walk_rows, walk_of}
use Rattle.yard.proofs.Refusals.{refused_by, walk_ready, walk_enters, walk-told}
use Rattle.std.proofs.Common.{ap, not}
use Rattle.yard.proofs.walk.Goals as goal

pub returns-then-output-lt-OUTPUT_SIZE-clause-told : goal.returns-then-output-lt-OUTPUT_SIZE-clause-told
unfolding walk_of walk_rows by_first
returns-then-output-lt-OUTPUT_SIZE-clause-told c = search (refused_by, ipv4_sound, ipv4_writes, first) depth 30 fits 4000

pub returns-then-not-yard_ok-clause-told : goal.returns-then-not-yard_ok-clause-told
unfolding walk_of walk_rows by_first
returns-then-not-yard_ok-clause-told c = search (refused_by, ipv4_sound, ipv4_writes, first) depth 30 fits 4000

pub returns-then-times-routers-clause-told : goal.returns-then-times-routers-clause-told
unfolding walk_of walk_rows by_first
returns-then-times-routers-clause-told c = search (refused_by, ipv4_sound, ipv4_writes, first) depth 30 fits 4000

pub returns-then-routers-start-clause-told : goal.returns-then-routers-start-clause-told
unfolding walk_of walk_rows by_first
returns-then-routers-start-clause-told c = search (refused_by, ipv4_sound, ipv4_writes, first) depth 30 fits 4000

pub returns-then-is_request-clause-told : goal.returns-then-is_request-clause-told
unfolding walk_of walk_rows by_first
returns-then-is_request-clause-told c = search (refused_by, ipv4_sound, ipv4_writes, first) depth 30 fits 4000

pub go-requires-clause-can_enter : goal.go-requires-clause-can_enter
go-requires-clause-can_enter c = walk_ready ipv4 _ c.yard_ok.result c.yard_ok.ensures (ap not c.if-not-yard_ok.false) c.if-times-routers.false

pub returns-clause-told : goal.returns-clause-told
unfolding walk_of walk_rows by_first
returns-clause-told c = search (walk-told, first) depth 30 fits 4000

pub returns-clause-entered : goal.returns-clause-entered
returns-clause-entered c = search (walk_enters, ipv4_sound, ipv4_writes)
