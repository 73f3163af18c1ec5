-- `write_answer`: nothing, or four numbers one behind the other.
use Rattle.servicebough.proofs.Rows.{not_answered, answered}
use Rattle.servicebough.proofs.write_answer.Goals as goal

pub returns-in-Dropped : goal.returns-in-Dropped
returns-in-Dropped c = not_answered _ _ c.in-Dropped.field-0 c.in-Dropped.is

pub returns : goal.returns
returns c =
    answered c.args.w c.args.answer.now _ _ _ _ c.in_default.not-Dropped c.requires (rw (← c.from.ensures) c.put32.ensures) c.put32-2.ensures c.put32-3.ensures
    c.put32-4.ensures
