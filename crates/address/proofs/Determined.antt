-- Two answers that meet a function's promise are equal: what each ensures is an equation.
use mathlib.Core.Path.{◌≡◌}
use Rattle.rows.proofs.Laws.{both_are}
use Rattle.address.proofs.unicast.Reads as unicast
use Rattle.address.proofs.multicast.Reads as multicast
use Rattle.address.proofs.link_scoped.Reads as link_scoped
use Rattle.address.proofs.all_ones.Reads as all_ones

pub unicast_determined : (κs : _) (a : _) (x y : _) (e f : _) → unicast.Post κs a x e → unicast.Post κs a y f → x ≡ y
unicast_determined κs a x y e f p q = both_are p q

pub multicast_determined : (κs : _) (a : _) (x y : _) (e f : _) → multicast.Post κs a x e → multicast.Post κs a y f → x ≡ y
multicast_determined κs a x y e f p q = both_are p q

pub link_scoped_determined : (κs : _) (a : _) (x y : _) (e f : _) → link_scoped.Post κs a x e → link_scoped.Post κs a y f → x ≡ y
link_scoped_determined κs a x y e f p q = both_are p q

pub all_ones_determined : (κs : _) (a : _) (x y : _) (e f : _) → all_ones.Post κs a x e → all_ones.Post κs a y f → x ≡ y
all_ones_determined κs a x y e f p q = both_are p q
