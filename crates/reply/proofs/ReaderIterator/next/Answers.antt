-- `next` of a reader: behind the block that is handed out fewer are left.
use Rattle.reply.proofs.Search.{hands_fewer}
use Rattle.reply.proofs.ReaderIterator.next.Goals as goal

pub returns-clause-goes : goal.returns-clause-goes
returns-clause-goes c =
    let less = hands_fewer c.args.self.now.reply.now _ _ _ c.in_ok-block.ensures in
    record { on = λ _. (tt, tt, less); keeps = tt; rests = λ _. tt }
