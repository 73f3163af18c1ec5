-- Two answers that meet an export's promise are equal, and so are the bytes that they leave: both meet the promise of the function of its
-- name (`Exports`), which leaves one answer.
use Rattle.reply.specs.Copy.{copied}
use Rattle.loss.specs.Loss.{written}
use mathlib.Core.Path.{◌≡◌}
use Rattle.engine.specs.Step.{outcome}
use Rattle.servicebough.specs.Answers.{handed}
use Rattle.servicebough.proofs.Determined as entry
use Rattle.servicebough_c.proofs.Exports.{bough_clock_start_exported, bough_clock_advance_exported, bough_clock_unix_exported, bough_clock_arrival_exported, bough_engine_step_exported, bough_walk_exported, bough_reply_check_exported, bough_reply_next_exported, bough_reply_loss_exported, bough_arrival_difference_exported}
use Rattle.servicebough_c.proofs.bough_clock_start.Reads as bough_clock_start
use Rattle.servicebough_c.proofs.bough_clock_advance.Reads as bough_clock_advance
use Rattle.servicebough_c.proofs.bough_clock_unix.Reads as bough_clock_unix
use Rattle.servicebough_c.proofs.bough_clock_arrival.Reads as bough_clock_arrival
use Rattle.servicebough_c.proofs.bough_engine_step.Reads as bough_engine_step
use Rattle.servicebough_c.proofs.bough_walk.Reads as bough_walk
use Rattle.servicebough_c.proofs.bough_reply_check.Reads as bough_reply_check
use Rattle.servicebough_c.proofs.bough_reply_next.Reads as bough_reply_next
use Rattle.servicebough_c.proofs.bough_reply_loss.Reads as bough_reply_loss
use Rattle.servicebough_c.proofs.bough_arrival_difference.Reads as bough_arrival_difference

pub bough_clock_start_determined : (κs : _) (a : _) (x y : _) (e f : _) → bough_clock_start.Post κs a x e → bough_clock_start.Post κs a y f
    → (x ≡ y) × (e.1.0.now ≡ f.1.0.now)
bough_clock_start_determined κs a x y e f p q =
    entry.bough_clock_start_determined κs a x y e f (bough_clock_start_exported κs a x e p) (bough_clock_start_exported κs a y f q)

pub bough_clock_advance_determined : (κs : _) (a : _) (x y : _) (e f : _) → bough_clock_advance.Post κs a x e → bough_clock_advance.Post κs a y f
    → (x ≡ y) × (e.1.1.1.0.now ≡ f.1.1.1.0.now)
bough_clock_advance_determined κs a x y e f p q =
    entry.bough_clock_advance_determined κs a x y e f (bough_clock_advance_exported κs a x e p) (bough_clock_advance_exported κs a y f q)

pub bough_clock_unix_determined : (κs : _) (a : _) (x y : _) (e f : _) → bough_clock_unix.Post κs a x e → bough_clock_unix.Post κs a y f → x ≡ y
bough_clock_unix_determined κs a x y e f p q =
    entry.bough_clock_unix_determined κs a x y e f (bough_clock_unix_exported κs a x e p) (bough_clock_unix_exported κs a y f q)

pub bough_clock_arrival_determined : (κs : _) (a : _) (x y : _) (e f : _) → bough_clock_arrival.Post κs a x e → bough_clock_arrival.Post κs a y f → x ≡ y
bough_clock_arrival_determined κs a x y e f p q =
    entry.bough_clock_arrival_determined κs a x y e f (bough_clock_arrival_exported κs a x e p) (bough_clock_arrival_exported κs a y f q)

pub bough_engine_step_determined : (κs : _) (a : _) (x y : _) (e f : _) → bough_engine_step.Post κs a x e → bough_engine_step.Post κs a y f
    → outcome x e.1.1.1.1.1.1.0.now e.1.1.1.1.1.1.1.0.now e.1.1.1.1.1.1.1.1.0.now
    ≡ outcome y f.1.1.1.1.1.1.0.now f.1.1.1.1.1.1.1.0.now f.1.1.1.1.1.1.1.1.0.now
bough_engine_step_determined κs a x y e f p q =
    entry.bough_engine_step_determined κs a x y e f (bough_engine_step_exported κs a x e p) (bough_engine_step_exported κs a y f q)

pub bough_walk_determined : (κs : _) (a : _) (x y : _) (e f : _) → bough_walk.Post κs a x e → bough_walk.Post κs a y f
    → handed x e.1.1.1.1.1.1.1.0.now e.1.1.1.1.1.1.1.1.0.now
    ≡ handed y f.1.1.1.1.1.1.1.0.now f.1.1.1.1.1.1.1.1.0.now
bough_walk_determined κs a x y e f p q =
    entry.bough_walk_determined κs a x y e f (bough_walk_exported κs a x e p) (bough_walk_exported κs a y f q)

pub bough_reply_check_determined : (κs : _) (a : _) (x y : _) (e f : _) → bough_reply_check.Post κs a x e → bough_reply_check.Post κs a y f → x ≡ y
bough_reply_check_determined κs a x y e f p q =
    entry.bough_reply_check_determined κs a x y e f (bough_reply_check_exported κs a x e p) (bough_reply_check_exported κs a y f q)

pub bough_reply_next_determined : (κs : _) (a : _) (x y : _) (e f : _) → bough_reply_next.Post κs a x e → bough_reply_next.Post κs a y f
    → copied x e.1.1.0.now ≡ copied y f.1.1.0.now
bough_reply_next_determined κs a x y e f p q =
    entry.bough_reply_next_determined κs a x y e f (bough_reply_next_exported κs a x e p) (bough_reply_next_exported κs a y f q)

pub bough_reply_loss_determined : (κs : _) (a : _) (x y : _) (e f : _) → bough_reply_loss.Post κs a x e → bough_reply_loss.Post κs a y f
    → written x e.1.1.0.now ≡ written y f.1.1.0.now
bough_reply_loss_determined κs a x y e f p q =
    entry.bough_reply_loss_determined κs a x y e f (bough_reply_loss_exported κs a x e p) (bough_reply_loss_exported κs a y f q)

pub bough_arrival_difference_determined : (κs : _) (a : _) (x y : _) (e f : _) → bough_arrival_difference.Post κs a x e → bough_arrival_difference.Post κs a y f → x ≡ y
bough_arrival_difference_determined κs a x y e f p q =
    entry.bough_arrival_difference_determined κs a x y e f (bough_arrival_difference_exported κs a x e p) (bough_arrival_difference_exported κs a y f q)
