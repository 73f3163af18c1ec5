-- `bough_walk`: too little room, or what the walk tells, or why it is refused.
use Rattle.servicebough.proofs.Rows.{no_answer, walk-told, walk_refused}
use Rattle.servicebough.proofs.bough_walk.Goals as goal

pub returns-then-answer-lt-ANSWER_SIZE : goal.returns-then-answer-lt-ANSWER_SIZE
returns-then-answer-lt-ANSWER_SIZE c = rw c.from.ensures (no_answer _ _ _ c.if-answer-lt-ANSWER_SIZE.true)

pub returns-in-Ok : goal.returns-in-Ok
returns-in-Ok c = rw c.from-in-Ok.ensures (walk-told _ _ _ c.in-Ok.w _ _ c.if-answer-lt-ANSWER_SIZE.false c.in-Ok.ensures.told c.write_answer.ensures)

pub returns-in-Err : goal.returns-in-Err
returns-in-Err c = rw c.from-in-Err.ensures (walk_refused _ _ _ c.in-Err.refusal _ c.if-answer-lt-ANSWER_SIZE.false c.in-Err.ensures.told)
