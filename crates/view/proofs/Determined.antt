-- Two answers that meet what a function ensures are equal.
use mathlib.Core.Path.{◌≡◌}
use Rattle.rows.proofs.Laws.{both_are}
use Rattle.view.proofs.link_mtu.Reads as link_mtu
use Rattle.view.proofs.view_with.Reads as view_with

pub link_mtu_determined : (κs : _) (a : _) (x y : _) (e f : _) → link_mtu.Post κs a x e → link_mtu.Post κs a y f → x ≡ y
link_mtu_determined κs a x y e f p q = both_are p q

pub view_with_determined : (κs : _) (a : _) (x y : _) (e f : _) → view_with.Post κs a x e → view_with.Post κs a y f → x ≡ y
view_with_determined κs a x y e f p q = both_are p q
