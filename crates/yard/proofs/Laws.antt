-- Laws of the walk that the crates above cite.

-- every walk that is not refused and that its first router accepts comes home and tells the truth; and none has more than 28 steps
pub use Rattle.yard.proofs.Faithful.{walk_is_faithful, not_refused_walks, steps_within}
-- the walk from a visit is a run, and there is no other
pub use Rattle.yard.proofs.Runs.{walk_runs, one_run}
-- who holds an address: the lowest router and its lowest interface, or nobody
pub use Rattle.yard.proofs.Holders.{Somebody, nobody_or_somebody}
-- a call of the engine by its promise, and what becomes of what it sent
pub use Rattle.yard.proofs.Calls.{called}
pub use Rattle.yard.proofs.Turns.{sent_short, end_not_on, end_group, end_nobody, end_goes}
