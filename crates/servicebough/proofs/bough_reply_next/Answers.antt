-- `bough_reply_next`: the place behind what was handed out, as a number, which is within the longest message; 0 for none.
use mathlib.Core.Path.{ap₂}
use native.Mathlib.Omega.{arith}
use Rattle.reply.specs.Copy.{copied}
use Rattle.reply.proofs.Laws.{answer_high, behind_told, none_told}
use Rattle.servicebough.proofs.bough_reply_next.Goals as goal

pub overflow_cast-result : goal.overflow_cast-result
overflow_cast-result c =
    let high = answer_high c.args.reply.now c.args.place c.args.block.now in
    record { fits = omega (arith, high, behind_told _ c.in-Some.behind c.in-Some.ensures.answer) }

pub returns-in-Some : goal.returns-in-Some
returns-in-Some c = ap₂ copied (behind_told _ c.in-Some.behind c.in-Some.ensures.answer) c.in-Some.ensures.left

pub returns-in-None : goal.returns-in-None
returns-in-None c = ap₂ copied (none_told _ c.in-None.ensures.answer) c.in-None.ensures.left
