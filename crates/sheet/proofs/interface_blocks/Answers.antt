-- `interface_blocks`: the chunks that were taken are blocks of that kind, and the next is not, or there is none.
use Rattle.std.proofs.Common.{rules}
use Rattle.sheet.proofs.Leading.{leading_chunks}
use Rattle.sheet.proofs.interface_blocks.Goals as goal

pub returns : goal.returns
returns c =
    let p = c.count.ensures.runs in
    let t = c.take_while.ensures.runs p.0 p.0.seen p.1 in
    let given = t.2.2 (λ a r f h. search rules) in
    let chunks = c.chunks_exact.ensures.runs t.0 t.0.seen (search rules) in
    rw p.3 (leading_chunks _ (λ x. x.now) t.0.at p.0.at p.0.len t.0.len _ _ (λ x h. search rules) (λ x h. search rules) _ _ t.0.whole p.0.items c.args.s (search rules) (search rules) chunks
    t.2.0 t.2.1 p.0.reads given.0 (given.1 p.2))
