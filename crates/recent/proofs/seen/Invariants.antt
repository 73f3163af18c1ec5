-- `seen`: while no entry from k on is of this client and id, the answer is that of the first k entries.
use Rattle.std.proofs.Common.{◌≡◌}
use Rattle.recent.specs.Entries.{first_entries, some_is_of, seen_in}
use Rattle.recent.proofs.seen.Given as goal

abbrev pub invariant-loop-k : goal.invariant-loop-k
invariant-loop-k l = seen_in l.list l.client l.id ≡ some_is_of (first_entries l.list l.k) l.client l.id
