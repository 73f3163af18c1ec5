-- `walk::read_input`: no more bytes were read than the buffer has.
use Rattle.std.proofs.Common.{◌≤◌, length}
use Rattle.walk.proofs.read_input.Given as goal

abbrev pub invariant-loop : goal.invariant-loop
invariant-loop g l = l.n ≤ length l.buffer
