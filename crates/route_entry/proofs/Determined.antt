-- Two answers that meet a function's promise are equal: what each ensures is an equation.
use mathlib.Core.Path.{◌≡◌}
use Rattle.rows.proofs.Laws.{both_are}
use Rattle.route_entry.proofs.route_at.Reads as route_at
use Rattle.route_entry.proofs.kind_at.Reads as kind_at
use Rattle.route_entry.proofs.length_at.Reads as length_at
use Rattle.route_entry.proofs.source_at.Reads as source_at
use Rattle.route_entry.proofs.group_at.Reads as group_at
use Rattle.route_entry.proofs.is_rp.Reads as is_rp
use Rattle.route_entry.proofs.prune_sent.Reads as prune_sent
use Rattle.route_entry.proofs.in_map.Reads as in_map

pub route_at_determined : (κs : _) (a : _) (x y : _) (e f : _) → route_at.Post κs a x e → route_at.Post κs a y f → x ≡ y
route_at_determined κs a x y e f p q = both_are p q

pub kind_at_determined : (κs : _) (a : _) (x y : _) (e f : _) → kind_at.Post κs a x e → kind_at.Post κs a y f → x ≡ y
kind_at_determined κs a x y e f p q = both_are p q

pub length_at_determined : (κs : _) (a : _) (x y : _) (e f : _) → length_at.Post κs a x e → length_at.Post κs a y f → x ≡ y
length_at_determined κs a x y e f p q = both_are p q

pub source_at_determined : (κs : _) (a : _) (x y : _) (e f : _) → source_at.Post κs a x e → source_at.Post κs a y f → x ≡ y
source_at_determined κs a x y e f p q = both_are p q

pub group_at_determined : (κs : _) (a : _) (x y : _) (e f : _) → group_at.Post κs a x e → group_at.Post κs a y f → x ≡ y
group_at_determined κs a x y e f p q = both_are p q

pub is_rp_determined : (κs : _) (a : _) (x y : _) (e f : _) → is_rp.Post κs a x e → is_rp.Post κs a y f → x ≡ y
is_rp_determined κs a x y e f p q = both_are p q

pub prune_sent_determined : (κs : _) (a : _) (x y : _) (e f : _) → prune_sent.Post κs a x e → prune_sent.Post κs a y f → x ≡ y
prune_sent_determined κs a x y e f p q = both_are p q

pub in_map_determined : (κs : _) (a : _) (x y : _) (e f : _) → in_map.Post κs a x e → in_map.Post κs a y f → x ≡ y
in_map_determined κs a x y e f p q = both_are p q
