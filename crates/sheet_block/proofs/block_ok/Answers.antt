-- `block_ok`: the frame bounds the entries in use.
use Rattle.block.proofs.Laws.{frame_filled}
use borrow.Author.Rules.{rules}
use Rattle.sheet_block.proofs.block_ok.Goals as goal

pub entries_ok-requires : goal.entries_ok-requires
entries_ok-requires g c =
    let in_use = frame_filled c.KIND.result c.size.result c.args.number c.args.partly c.args.b.now (search rules) in
    (search rules, rw (← c.size.ensures.size) (search (rules, in_use.most)))
