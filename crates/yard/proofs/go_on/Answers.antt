-- `go_on`: an interface's number fits 32 bits.
use Rattle.format.specs.Sizes.{ipv4_sound}
use Rattle.written.proofs.Laws.{ipv4_writes}
use Rattle.yard.proofs.Rows.{held_fits}
use Rattle.yard.proofs.go_on.Goals as goal

pub overflow_cast-result : goal.overflow_cast-result
overflow_cast-result c = record { fits = search (held_fits, ipv4_sound, ipv4_writes) }
