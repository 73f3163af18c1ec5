-- Two answers that meet a function's promise are equal: what each ensures is an equation.
use mathlib.Core.Path.{◌≡◌}
use Rattle.rows.proofs.Laws.{both_are}
use Rattle.route_rules.proofs.outside_map.Reads as outside_map
use Rattle.route_rules.proofs.route_ok.Reads as route_ok

pub outside_map_determined : (κs : _) (a : _) (x y : _) (e f : _) → outside_map.Post κs a x e → outside_map.Post κs a y f → x ≡ y
outside_map_determined κs a x y e f p q = both_are p q

pub route_ok_determined : (κs : _) (a : _) (x y : _) (e f : _) → route_ok.Post κs a x e → route_ok.Post κs a y f → x ≡ y
route_ok_determined κs a x y e f p q = both_are p q
