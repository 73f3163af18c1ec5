-- `go`: the walk calls itself for the next router. The measure is the hops not yet used, hops minus blocks of the message received:
-- what is sent on has one block more.
use borrow.Author.Rules.{rules}
use Rattle.format.specs.Sizes.{ipv4_sound}
use Rattle.written.proofs.Laws.{ipv4_writes}
use Rattle.yard.proofs.Rows.{message_within, message_measured, message_short, walk_over, hops_fall, there_next, walk_goes_on, steps_fit}
use Rattle.yard.proofs.+go.Goals as goal

pub slice_bounds-sent-end : goal.slice_bounds-sent-end
slice_bounds-sent-end t c = search (message_within, ipv4_sound, ipv4_writes)

pub slice_bounds-message-end : goal.slice_bounds-message-end
slice_bounds-message-end t c = search (message_measured, ipv4_sound, ipv4_writes)

pub finish-requires : goal.finish-requires
finish-requires t c = (search (message_short, ipv4_sound, ipv4_writes), search rules)

pub returns-in-Err : goal.returns-in-Err
returns-in-Err t c = search (walk_over, ipv4_sound, ipv4_writes)

pub go-w-requires : goal.go-w-requires
go-w-requires t c = (search (hops_fall, ipv4_sound, ipv4_writes), (search rules, (search (there_next, ipv4_sound, ipv4_writes), search rules)))

pub overflow_add-steps : goal.overflow_add-steps
overflow_add-steps t c = record { fits = search (steps_fit, ipv4_sound, ipv4_writes) }

pub returns-in-Ok : goal.returns-in-Ok
returns-in-Ok t c = search (walk_goes_on, ipv4_sound, ipv4_writes)
