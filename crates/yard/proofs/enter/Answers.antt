-- `enter`: what becomes of what the engine sent.
use mathlib.Core.Path.{refl}
use Rattle.format.specs.Sizes.{ipv4_sound}
use Rattle.written.proofs.Laws.{ipv4_writes}
use Rattle.yard.proofs.Rows.{hopped}
use Rattle.yard.proofs.enter.Goals as goal

pub returns : goal.returns
returns c = hopped ipv4_sound ipv4_writes _ _ _ _ _ _ _ c.ask-call.ensures _ c.go_on.ensures _ refl
