-- Each export promises what the function of its name promises, argument for argument in the same place: so two arguments of one type
-- cannot change places between the two crates.
use Rattle.servicebough.proofs.bough_clock_start.Reads as bough_clock_start
use Rattle.servicebough_c.proofs.bough_clock_start.Reads as exported_bough_clock_start
use Rattle.servicebough.proofs.bough_clock_advance.Reads as bough_clock_advance
use Rattle.servicebough_c.proofs.bough_clock_advance.Reads as exported_bough_clock_advance
use Rattle.servicebough.proofs.bough_clock_unix.Reads as bough_clock_unix
use Rattle.servicebough_c.proofs.bough_clock_unix.Reads as exported_bough_clock_unix
use Rattle.servicebough.proofs.bough_clock_arrival.Reads as bough_clock_arrival
use Rattle.servicebough_c.proofs.bough_clock_arrival.Reads as exported_bough_clock_arrival
use Rattle.servicebough.proofs.bough_engine_step.Reads as bough_engine_step
use Rattle.servicebough_c.proofs.bough_engine_step.Reads as exported_bough_engine_step
use Rattle.servicebough.proofs.bough_walk.Reads as bough_walk
use Rattle.servicebough_c.proofs.bough_walk.Reads as exported_bough_walk
use Rattle.servicebough.proofs.bough_reply_check.Reads as bough_reply_check
use Rattle.servicebough_c.proofs.bough_reply_check.Reads as exported_bough_reply_check
use Rattle.servicebough.proofs.bough_reply_next.Reads as bough_reply_next
use Rattle.servicebough_c.proofs.bough_reply_next.Reads as exported_bough_reply_next
use Rattle.servicebough.proofs.bough_reply_loss.Reads as bough_reply_loss
use Rattle.servicebough_c.proofs.bough_reply_loss.Reads as exported_bough_reply_loss
use Rattle.servicebough.proofs.bough_arrival_difference.Reads as bough_arrival_difference
use Rattle.servicebough_c.proofs.bough_arrival_difference.Reads as exported_bough_arrival_difference

pub bough_clock_start_exported : (κs : _) (a : _) (x : _) (e : _) → exported_bough_clock_start.Post κs a x e → bough_clock_start.Post κs a x e
bough_clock_start_exported κs a x e p = p

pub bough_clock_advance_exported : (κs : _) (a : _) (x : _) (e : _) → exported_bough_clock_advance.Post κs a x e → bough_clock_advance.Post κs a x e
bough_clock_advance_exported κs a x e p = p

pub bough_clock_unix_exported : (κs : _) (a : _) (x : _) (e : _) → exported_bough_clock_unix.Post κs a x e → bough_clock_unix.Post κs a x e
bough_clock_unix_exported κs a x e p = p

pub bough_clock_arrival_exported : (κs : _) (a : _) (x : _) (e : _) → exported_bough_clock_arrival.Post κs a x e → bough_clock_arrival.Post κs a x e
bough_clock_arrival_exported κs a x e p = p

pub bough_engine_step_exported : (κs : _) (a : _) (x : _) (e : _) → exported_bough_engine_step.Post κs a x e → bough_engine_step.Post κs a x e
bough_engine_step_exported κs a x e p = p

pub bough_walk_exported : (κs : _) (a : _) (x : _) (e : _) → exported_bough_walk.Post κs a x e → bough_walk.Post κs a x e
bough_walk_exported κs a x e p = p

pub bough_reply_check_exported : (κs : _) (a : _) (x : _) (e : _) → exported_bough_reply_check.Post κs a x e → bough_reply_check.Post κs a x e
bough_reply_check_exported κs a x e p = p

pub bough_reply_next_exported : (κs : _) (a : _) (x : _) (e : _) → exported_bough_reply_next.Post κs a x e → bough_reply_next.Post κs a x e
bough_reply_next_exported κs a x e p = p

pub bough_reply_loss_exported : (κs : _) (a : _) (x : _) (e : _) → exported_bough_reply_loss.Post κs a x e → bough_reply_loss.Post κs a x e
bough_reply_loss_exported κs a x e p = p

pub bough_arrival_difference_exported : (κs : _) (a : _) (x : _) (e : _) → exported_bough_arrival_difference.Post κs a x e → bough_arrival_difference.Post κs a x e
bough_arrival_difference_exported κs a x e p = p
