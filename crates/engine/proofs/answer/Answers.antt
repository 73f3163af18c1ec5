-- `answer`: with room or without, what is written is the outcome.
use Rattle.engine.proofs.Steps.{full_ready, answered_full, roomy_ready, answered_longer}
use Rattle.engine.proofs.answer.Goals as goal

pub send_full-requires : goal.send_full-requires
send_full-requires c =
    record { sound = c.requires.sound; without_room = full_ready c.requires.sound _ _ _ _ _ _ _ c.requires.ready _ _ c.view_with-view.ensures _ c.link_mtu.ensures _ c.is_full.ensures c.if-is_full.true }

pub returns-then-is_full : goal.returns-then-is_full
returns-then-is_full c =
    answered_full c.requires.sound _ _ _ _ _ _ c.view_with-view.ensures _ c.link_mtu.ensures _ c.is_full.ensures _ _ _ _ _ _ _ c.write_recent.ensures
    c.if-is_full.true c.send_full.ensures

pub send_longer-requires : goal.send_longer-requires
send_longer-requires c =
    record { writes = c.requires.writes; with_room = roomy_ready c.requires.sound _ _ _ _ _ _ _ c.requires.ready _ _ c.view_with-view.ensures _ c.link_mtu.ensures _ c.is_full.ensures c.if-is_full.false }

pub returns : goal.returns
returns c =
    answered_longer c.requires.sound _ _ _ _ _ _ c.view_with-view.ensures _ c.link_mtu.ensures _ c.is_full.ensures _ _ _ _ _ _ _ c.write_recent.ensures
    c.if-is_full.false c.send_longer.ensures
