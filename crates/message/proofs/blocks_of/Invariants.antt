-- `blocks_of`: what the whole message gives is what was found so far, joined with what the blocks from here on give.
-- A block is not empty and lies within the message, so the place moves on and stays inside.
use Prim.Native.Nat.{◌≤◌, ◌-◌}
use mathlib.Core.Path.{◌≡◌}
use lib.ListN.{length, drop}
use Rattle.message.specs.Blocks.{blocks_from}
use Rattle.message.specs.Inside.{blocks_seen}
use Rattle.message.proofs.Turns.{joined}
use Rattle.message.proofs.blocks_of.Given as goal

abbrev pub invariant-loop-block : goal.invariant-loop-block
invariant-loop-block l = (l.at ≤ length l.s) × (l.count ≤ l.at) × (blocks_seen l.f l.s ≡ joined l.at l.count l.last (blocks_from l.f l.at (drop l.at l.s)))

abbrev pub decreases-loop-block : goal.decreases-loop-block
decreases-loop-block l = length l.s - l.at
