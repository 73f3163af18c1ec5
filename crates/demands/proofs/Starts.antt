-- The demands on a walk are met by something: P1's trace, which is computed.
use mathlib.Core.Path.{refl}
use Rattle.rows.specs.Rows.{NoneApplies}
use Rattle.rows.proofs.Laws.{zero_none}
use Rattle.yard.specs.Walk.{Visit, walk_rows}
use Rattle.demands.specs.Engine.{rows}
use Rattle.demands.specs.Walk.{call_at}
use Rattle.worked.specs.Example.{two_routers, two_times, paper_query, start_with}
use Rattle.worked.proofs.Opened.{opened}
use Rattle.format.specs.Sizes.{ipv4, output_size}

-- P1's trace is not refused, and its first router accepts it
abbrev p1 : Visit
p1 = start_with (paper_query 10)

pub starts : NoneApplies (walk_rows ipv4 (two_routers 0) two_times p1 output_size) × NoneApplies (rows (call_at (two_routers 0) two_times p1))
unfolding opened
starts = (zero_none (walk_rows ipv4 (two_routers 0) two_times p1 output_size) refl refl, zero_none (rows (call_at (two_routers 0) two_times p1)) refl refl)
