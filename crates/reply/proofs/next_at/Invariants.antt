-- `next_at`: the type 4 blocks from the place on are those from here on. A block is not empty and lies within the message, so the place
-- moves on and stays inside.
use Prim.Native.Nat.{◌≤◌, ◌-◌}
use mathlib.Core.Path.{◌≡◌}
use lib.ListN.{length}
use Rattle.message.specs.Inside.{standards_from}
use Rattle.format.specs.Sizes.{ipv4}
use Rattle.reply.proofs.next_at.Given as goal

abbrev pub invariant-loop-block : goal.invariant-loop-block
invariant-loop-block l = record { inside : l.at ≤ length l.s; same : standards_from ipv4 l.s l.place ≡ standards_from ipv4 l.s l.at }

abbrev pub decreases-loop-block : goal.decreases-loop-block
decreases-loop-block l = length l.s - l.at
