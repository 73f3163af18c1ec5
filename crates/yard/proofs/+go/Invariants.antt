-- `go`: the walk calls itself for the next router. The measure is the hops not yet used, hops minus blocks of the message received:
-- what is sent on has one block more.
use Rattle.format.specs.Sizes.{ipv4}
use Rattle.message.specs.Room.{hops_left}
use Rattle.yard.proofs.+go.Given as goal

abbrev pub decreases-go : goal.decreases-go
decreases-go l = hops_left ipv4 l.v.arrival.message.now
