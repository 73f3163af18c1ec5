-- `start_of`: the end of what is refused.
use Rattle.reply.proofs.Rows.{starts_last}
use Rattle.reply.proofs.start_of.Goals as goal

pub returns-in-Err : goal.returns-in-Err
returns-in-Err c = starts_last c.args.s.now c.in-Err.field-0 c.in-Err.ensures
