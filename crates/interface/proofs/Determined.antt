-- Two answers that meet a function's promise are equal: what each ensures is an equation.
use mathlib.Core.Path.{◌≡◌}
use Rattle.rows.proofs.Laws.{both_are}
use Rattle.interface.proofs.interface_at.Reads as interface_at
use Rattle.interface.proofs.is_multicast.Reads as is_multicast
use Rattle.interface.proofs.is_boundary.Reads as is_boundary
use Rattle.interface.proofs.interface_ok.Reads as interface_ok

pub interface_at_determined : (κs : _) (a : _) (x y : _) (e f : _) → interface_at.Post κs a x e → interface_at.Post κs a y f → x ≡ y
interface_at_determined κs a x y e f p q = both_are p q

pub is_multicast_determined : (κs : _) (a : _) (x y : _) (e f : _) → is_multicast.Post κs a x e → is_multicast.Post κs a y f → x ≡ y
is_multicast_determined κs a x y e f p q = both_are p q

pub is_boundary_determined : (κs : _) (a : _) (x y : _) (e f : _) → is_boundary.Post κs a x e → is_boundary.Post κs a y f → x ≡ y
is_boundary_determined κs a x y e f p q = both_are p q

pub interface_ok_determined : (κs : _) (a : _) (x y : _) (e f : _) → interface_ok.Post κs a x e → interface_ok.Post κs a y f → x ≡ y
interface_ok_determined κs a x y e f p q = both_are p q
