-- `ask`: the engine is called once, and its record gives the length and the destination of what it sent.
use Rattle.recent.specs.Entries.{empty}
use Rattle.yard.proofs.Calls.{lent_right, called}
use Rattle.format.specs.Sizes.{ipv4_sound}
use Rattle.written.proofs.Laws.{ipv4_writes}
use borrow.Author.Rules.{rules}
use Rattle.yard.proofs.ask.Goals as goal

pub step_lent-answer-requires : goal.step_lent-answer-requires
unfolding empty
step_lent-answer-requires c = search (lent_right, rules)

pub returns : goal.returns
unfolding empty
returns c = search (called, ipv4_sound, ipv4_writes)
