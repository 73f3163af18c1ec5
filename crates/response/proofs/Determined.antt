-- Two answers that meet what a function ensures are equal.
use mathlib.Core.Path.{◌≡◌}
use Rattle.rows.proofs.Laws.{both_are}
use Rattle.response.proofs.address_of.Reads as address_of
use Rattle.response.proofs.upstream.Reads as upstream
use Rattle.response.proofs.block_of.Reads as Block-of
use Rattle.response.proofs.ends_trace.Reads as ends_trace

pub address_of_determined : (κs : _) (a : _) (x y : _) (e f : _) → address_of.Post κs a x e → address_of.Post κs a y f → x ≡ y
address_of_determined κs a x y e f = both_are

pub upstream_determined : (κs : _) (a : _) (x y : _) (e f : _) → upstream.Post κs a x e → upstream.Post κs a y f → x ≡ y
upstream_determined κs a x y e f = both_are

pub block_of_determined : (κs : _) (a : _) (x y : _) (e f : _) → Block-of.Post κs a x e → Block-of.Post κs a y f → x ≡ y
block_of_determined κs a x y e f = both_are

pub ends_trace_determined : (κs : _) (a : _) (x y : _) (e f : _) → ends_trace.Post κs a x e → ends_trace.Post κs a y f → x ≡ y
ends_trace_determined κs a x y e f = both_are
