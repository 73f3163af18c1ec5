-- Two answers that meet an entry's promise are equal, and so are the bytes that they leave.
use Rattle.reply.specs.Copy.{copied}
use Rattle.loss.specs.Loss.{written}
use mathlib.Core.Path.{◌≡◌}
use Rattle.rows.proofs.Laws.{both_are}
use Rattle.engine.specs.Step.{outcome}
use Rattle.servicebough.specs.Answers.{handed}
use Rattle.ticks.proofs.Determined.{tick_settled}
use Rattle.servicebough.proofs.bough_clock_start.Reads as bough_clock_start
use Rattle.servicebough.proofs.bough_clock_advance.Reads as bough_clock_advance
use Rattle.servicebough.proofs.bough_clock_unix.Reads as bough_clock_unix
use Rattle.servicebough.proofs.bough_clock_arrival.Reads as bough_clock_arrival
use Rattle.servicebough.proofs.bough_engine_step.Reads as bough_engine_step
use Rattle.servicebough.proofs.bough_reply_check.Reads as bough_reply_check
use Rattle.servicebough.proofs.bough_reply_next.Reads as bough_reply_next
use Rattle.servicebough.proofs.bough_reply_loss.Reads as bough_reply_loss
use Rattle.servicebough.proofs.bough_arrival_difference.Reads as bough_arrival_difference
use Rattle.servicebough.proofs.bough_walk.Reads as bough_walk

pub bough_clock_start_determined : (κs : _) (a : _) (x y : _) (e f : _) → bough_clock_start.Post κs a x e → bough_clock_start.Post κs a y f
    → (x ≡ y) × (e.1.0.now ≡ f.1.0.now)
bough_clock_start_determined κs a x y e f p q = tick_settled p q

pub bough_clock_advance_determined : (κs : _) (a : _) (x y : _) (e f : _) → bough_clock_advance.Post κs a x e → bough_clock_advance.Post κs a y f
    → (x ≡ y) × (e.1.1.1.0.now ≡ f.1.1.1.0.now)
bough_clock_advance_determined κs a x y e f p q = tick_settled p q

pub bough_clock_unix_determined : (κs : _) (a : _) (x y : _) (e f : _) → bough_clock_unix.Post κs a x e → bough_clock_unix.Post κs a y f → x ≡ y
bough_clock_unix_determined κs a x y e f p q = both_are p q

pub bough_clock_arrival_determined : (κs : _) (a : _) (x y : _) (e f : _) → bough_clock_arrival.Post κs a x e → bough_clock_arrival.Post κs a y f → x ≡ y
bough_clock_arrival_determined κs a x y e f p q = both_are p q

pub bough_engine_step_determined : (κs : _) (a : _) (x y : _) (e f : _) → bough_engine_step.Post κs a x e → bough_engine_step.Post κs a y f
    → outcome x e.1.1.1.1.1.1.0.now e.1.1.1.1.1.1.1.0.now e.1.1.1.1.1.1.1.1.0.now
    ≡ outcome y f.1.1.1.1.1.1.0.now f.1.1.1.1.1.1.1.0.now f.1.1.1.1.1.1.1.1.0.now
bough_engine_step_determined κs a x y e f p q = both_are p q

pub bough_walk_determined : (κs : _) (a : _) (x y : _) (e f : _) → bough_walk.Post κs a x e → bough_walk.Post κs a y f
    → handed x e.1.1.1.1.1.1.1.0.now e.1.1.1.1.1.1.1.1.0.now
    ≡ handed y f.1.1.1.1.1.1.1.0.now f.1.1.1.1.1.1.1.1.0.now
bough_walk_determined κs a x y e f p q = both_are p q

pub bough_reply_check_determined : (κs : _) (a : _) (x y : _) (e f : _) → bough_reply_check.Post κs a x e → bough_reply_check.Post κs a y f → x ≡ y
bough_reply_check_determined κs a x y e f = both_are

pub bough_reply_next_determined : (κs : _) (a : _) (x y : _) (e f : _) → bough_reply_next.Post κs a x e → bough_reply_next.Post κs a y f
    → copied x e.1.1.0.now ≡ copied y f.1.1.0.now
bough_reply_next_determined κs a x y e f = both_are

pub bough_reply_loss_determined : (κs : _) (a : _) (x y : _) (e f : _) → bough_reply_loss.Post κs a x e → bough_reply_loss.Post κs a y f
    → written x e.1.1.0.now ≡ written y f.1.1.0.now
bough_reply_loss_determined κs a x y e f = both_are

pub bough_arrival_difference_determined : (κs : _) (a : _) (x y : _) (e f : _) → bough_arrival_difference.Post κs a x e → bough_arrival_difference.Post κs a y f → x ≡ y
bough_arrival_difference_determined κs a x y e f = both_are
