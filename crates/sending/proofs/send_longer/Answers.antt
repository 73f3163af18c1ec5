-- `send_longer`: what is written is the Reply or the Request, as the end of the trace picks.
use Rattle.sending.proofs.Rows.{longer_fits, home_sent, on_sent}
use Rattle.sending.proofs.send_longer.Goals as goal

pub write_longer-requires : goal.write_longer-requires
write_longer-requires c =
    longer_fits _ _ _ _ _ _ _ _ c.requires.writes c.requires.with_room

pub returns-then-ends : goal.returns-then-ends
returns-then-ends c =
    let ready = c.requires.with_room in
    home_sent _ _ _ _ _ ready.header ready.count _ c.block_of-block.ensures _ c.ends_trace-ends.ensures _ _ _ _ _ c.write_note.ensures c.requires.writes _
    c.if-ends.true c.kind_sent.ensures c.write_longer.ensures c.note_home.ensures

pub returns : goal.returns
returns c =
    let ready = c.requires.with_room in
    on_sent _ _ _ _ _ ready.header ready.count _ c.block_of-block.ensures _ c.ends_trace-ends.ensures _ _ _ _ _ c.write_note-2.ensures c.requires.writes _
    c.if-ends.false c.kind_sent.ensures c.write_longer.ensures c.note_on.ensures
