-- Two answers that meet a function's promise are equal: what each ensures is an equation.
use mathlib.Core.Path.{◌≡◌}
use Rattle.rows.proofs.Laws.{both_are}
use Rattle.tables.proofs.interface_place.Reads as interface_place
use Rattle.tables.proofs.route_place.Reads as route_place
use Rattle.tables.proofs.routes_beside.Reads as routes_beside
use Rattle.tables.proofs.prohibited.Reads as prohibited
use Rattle.tables.proofs.holder.Reads as holder

pub interface_place_determined : (κs : _) (a : _) (x y : _) (e f : _) → interface_place.Post κs a x e → interface_place.Post κs a y f → x ≡ y
interface_place_determined κs a x y e f p q = both_are p q

pub route_place_determined : (κs : _) (a : _) (x y : _) (e f : _) → route_place.Post κs a x e → route_place.Post κs a y f → x ≡ y
route_place_determined κs a x y e f p q = both_are p q

pub routes_beside_determined : (κs : _) (a : _) (x y : _) (e f : _) → routes_beside.Post κs a x e → routes_beside.Post κs a y f → x ≡ y
routes_beside_determined κs a x y e f p q = both_are p q

pub prohibited_determined : (κs : _) (a : _) (x y : _) (e f : _) → prohibited.Post κs a x e → prohibited.Post κs a y f → x ≡ y
prohibited_determined κs a x y e f p q = both_are p q

pub holder_determined : (κs : _) (a : _) (x y : _) (e f : _) → holder.Post κs a x e → holder.Post κs a y f → x ≡ y
holder_determined κs a x y e f p q = both_are p q
