-- `step_by`: the verdict's number, or the answer to what it found.
use mathlib.Core.Path.{refl}
use Rattle.engine.proofs.Steps.{lent_list, lent_ready, step_answered}
use Rattle.engine.proofs.step_by.Goals as goal

pub judge-requires-clause-formed : goal.judge-requires-clause-formed
judge-requires-clause-formed c = lent_list c.requires.sound _ c.args.output.now c.args.note.now c.requires.recent_value

pub answer-requires-clause-ready : goal.answer-requires-clause-ready
answer-requires-clause-ready c =
    lent_ready c.requires.sound _ _ _ _ c.args.time _ _ c.args.output.now c.args.note.now c.requires.recent_value _ c.in_ok-j.ensures refl

pub returns : goal.returns
returns c =
    step_answered c.requires.sound _ _ _ _ _ _ _ _ _ c.requires.recent_value _ c.in_ok-j.ensures _ _ _ _ refl c.answer.ensures
