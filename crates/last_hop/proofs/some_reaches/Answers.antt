-- `some_reaches`: none of the first k interfaces reaches the client.
use Rattle.std.proofs.Common.{refl}
use Rattle.last_hop.specs.LastHop.{some_reaches}
use Rattle.last_hop.proofs.Reached.{bit_there, map_over, reached, not_reached}
use Rattle.last_hop.proofs.some_reaches.Goals as goal

pub loop-k-init : goal.loop-k-init
unfolding some_reaches
loop-k-init c = refl

pub overflow_shr-map : goal.overflow_shr-map
overflow_shr-map c = search bit_there

pub returns-then-map-eq0 : goal.returns-then-map-eq0
returns-then-map-eq0 c = search map_over

pub returns-then-reaches : goal.returns-then-reaches
returns-then-reaches c = search reached

pub loop-k-preserved : goal.loop-k-preserved
loop-k-preserved c = search not_reached
